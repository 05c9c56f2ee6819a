use Rattle.std.proofs.Common.{◌+◌, ◌∙◌, ap, arith, inl, inr, subst, sym}
use Rattle.round_schedule.specs.declared.event.Event.{Event}
use Rattle.memory_order.specs.Checking.{source_at, source_of}
use Rattle.rule_checker.specs.CarriedBounds.{MayForward}
use Rattle.memory_order.proofs.Bounding.{range_last}
use Rattle.memory_order.proofs.Sourcing.{load_within}
use Rattle.rule_checker.proofs.carried.may_forward.Goals as goal

pub source_at-source-requires : goal.source_at-source-requires
source_at-source-requires c =
    let l = load_within c.args.events.now c.args.order.now c.args.i c.args.position c.event_at-event.result.access c.requires.lists
    (ap (λ (e : Event). e.access) c.event_at-event.ensures.at) c.requires.standing (sym c.loads.ensures ∙ c.if-not-loads.false) in
    omega (arith, l, c.requires.sourced.len)

pub loop-k-preserved : goal.loop-k-preserved
loop-k-preserved c = λ x h. elim (range_last c.address-start.result c.loop-k.k x h) [
  | inl old ↦ c.loop-k.invariant x old
  | inr same ↦
      subst (λ y. MayForward c.args.events.now c.args.order.now c.args.operands.now c.args.i c.args.position (source_of c.args.order.now c.args.sources.now.items c.args.i y)) same
      (subst (λ v. MayForward c.args.events.now c.args.order.now c.args.operands.now c.args.i c.args.position v)
      (c.source_at-source.ensures ∙ ap (λ p. source_at c.args.sources.now.items p (c.address-start.result + c.loop-k.k)) c.requires.standing)
      (c.forwards_from.ensures.0 c.if-not-forwards_from.false))
]
