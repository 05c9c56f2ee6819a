use Rattle.std.proofs.Common.{◌+◌, ◌%◌, ◌∙◌, slice_index, ap, arith, inl, inr, subst, sym}
use Rattle.round_schedule.specs.declared.event.Event.{Event}
use Rattle.memory_order.specs.Checking.{bound, source_at, source_of}
use Rattle.rule_checker.specs.Bytes.{MayLoadByte}
use Rattle.memory_order.proofs.Bounding.{range_at, range_last}
use Rattle.memory_order.proofs.Sourcing.{load_within}
use Rattle.memory_order.proofs.Valuing.{reads_here, source_listed}
use Rattle.rule_checker.proofs.coherent.may_load.Goals as goal

pub source_at-source-requires : goal.source_at-source-requires
source_at-source-requires c =
    let l = load_within c.args.events.now c.args.order.now c.args.i c.args.position c.event_at-event.result.access c.requires.lists
    (ap (λ (e : Event). e.access) c.event_at-event.ensures.at) c.requires.standing (sym c.loads.ensures ∙ c.if-not-loads.false) in
    omega (arith, l, c.requires.sourced.len)

pub may_load_byte-requires-clause-listed : goal.may_load_byte-requires-clause-listed
may_load_byte-requires-clause-listed c =
    let t = c.args.events.now in
    let g = c.args.order.now in
    let s = c.args.sources.now.items in
    let x = c.address-start.result + c.loop-k.k in
    let reads = reads_here t c.args.i c.loop-k.k c.address-start.result c.byte_count-width.result c.event_at-event.result c.event_at-event.ensures.at
    (sym c.loads.ensures ∙ c.if-not-loads.false) c.address-start.ensures c.byte_count-width.ensures.count c.loop-k-test.true in
    let low = source_listed t g c.args.i x (source_of g s c.args.i x) c.requires.lists (c.requires.sourced.max c.args.i x reads) in
    let is = c.source_at-source.ensures ∙ ap (λ p. source_at s p x) c.requires.standing in
    omega (arith, low, is)

pub loop-k-preserved : goal.loop-k-preserved
loop-k-preserved c = λ x h. elim (range_last c.address-start.result c.loop-k.k x h) [
  | inl old ↦ c.loop-k.invariant x old
  | inr same ↦
      subst (λ y. MayLoadByte c.args.events.now c.args.order.now (bound c.args.seen.now c.args.hart y) c.args.position (source_of c.args.order.now c.args.sources.now.items c.args.i y)) same
      (subst (λ v. MayLoadByte c.args.events.now c.args.order.now v c.args.position (source_of c.args.order.now c.args.sources.now.items c.args.i (c.address-start.result + c.loop-k.k))) (c.bounds_at-before.ensures (c.address-start.result + c.loop-k.k) (range_at c.address-start.result c.byte_count-width.result c.loop-k.k c.loop-k-test.true))
      (subst (λ v. MayLoadByte c.args.events.now c.args.order.now (slice_index c.bounds_at-before.result ((c.address-start.result + c.loop-k.k) % 8)) c.args.position v)
      (c.source_at-source.ensures ∙ ap (λ p. source_at c.args.sources.now.items p (c.address-start.result + c.loop-k.k)) c.requires.standing)
      (c.may_load_byte.ensures.0 c.if-not-may_load_byte.false)))
]
