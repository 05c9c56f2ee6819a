use Rattle.std.proofs.Common.{◌+◌, ◌∙◌, ap, arith, refl, sym}
use Rattle.round_schedule.specs.declared.event.Event.{Event}
use Rattle.memory_order.proofs.Placing.{position_of_contained}
use Rattle.memory_order.proofs.Sources.{load_at}
use Rattle.memory_order.specs.Checking.{bound, source_of}
use Rattle.memory_order.proofs.Sourcing.{here_raised, others_stay, seen_step, sourced_step}
use Rattle.memory_order.proofs.checking.sources.all_sources.Goals as goal

pub loop-p-preserved : goal.loop-p-preserved
loop-p-preserved c =
    let t = c.args.events.now in
    let g = c.args.order.now in
    let i = c.listed-reader.result in
    let p = c.loop-p.p in
    let e = c.event_at-event.result in
    let was = c.loop-p.sources.items in
    let now = c.note_load.new.sources.items in
    let at = sym c.listed-reader.ensures.position in
    record {
      len = c.note_load.ensures.len ∙ c.loop-p.invariant.len;
      seen = seen_step t g i p (p + 1) e (λ x. bound c.loop-p.seen 0 x) (λ x. bound c.note_store.new.bounds 0 x) c.requires.lists
          c.event_at-event.ensures.at c.listed-reader.ensures.operation c.listed-reader.ensures.position refl
          (λ x. c.in_ok-note_store.ensures 0 x) c.loop-p.invariant.seen;
      sources = sourced_step t g i p e (λ x. bound c.loop-p.seen 0 x) (λ r x. source_of g was r x) (λ r x. source_of g now r x) c.requires.lists
          c.event_at-event.ensures.at c.listed-reader.ensures.operation c.listed-reader.ensures.position
          (others_stay t g i p e.access was now c.requires.lists (ap (λ (e : Event). e.access) c.event_at-event.ensures.at) at c.note_load.ensures.others)
          (here_raised g i p 0 0 e.access was now (λ h x. bound c.loop-p.seen h x) at refl c.note_load.ensures.raised)
          c.loop-p.invariant.seen c.loop-p.invariant.sources;
    }

pub returns : goal.returns
returns c = record {
  len = c.loop-p.invariant.len;
  max = λ r x h.
      let f = position_of_contained c.args.order.now r (c.requires.lists.each r (load_at c.args.events.now r x h)) in
      c.loop-p.invariant.sources.noted r x h (omega (arith, f.0));
}
