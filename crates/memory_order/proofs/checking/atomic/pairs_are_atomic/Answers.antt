use Rattle.std.proofs.Common.{arith, below_more, refl}
use Rattle.memory_order.specs.CheckingAtomic.{latest_of}
use Rattle.memory_order.proofs.Atomicity.{atomicity_from_each, latest_step}
use Rattle.memory_order.proofs.checking.atomic.pairs_are_atomic.Goals as goal

pub loop-p-preserved : goal.loop-p-preserved
loop-p-preserved c = record {
  latest = latest_step c.args.events.now c.args.order.now c.listed-index.result c.loop-p.p c.event_at-event.result.hart c.event_at-event.result
      (λ x. latest_of c.loop-p.latest x) (λ x. latest_of c.note_latest.new.latest x) c.requires.lists
      c.event_at-event.ensures.at refl c.listed-index.ensures.operation c.listed-index.ensures.position
      (λ x. c.in_ok-note_latest.ensures x) c.loop-p.invariant.latest;
  atomic = below_more _ _ c.loop-p.invariant.atomic (c.is_atomic.ensures.0 c.if-not-is_atomic.false);
}

pub returns : goal.returns
returns c = (λ h. atomicity_from_each c.args.events.now c.args.order.now c.requires.lists (λ p l. c.loop-p.invariant.atomic p (omega (arith, l))), λ h. refl)
