use Rattle.std.proofs.Common.{◌+◌, ◌∙◌, ap, arith, inl, inr, sym}
use Rattle.round_schedule.specs.declared.event.Event.{Event}
use Rattle.round_schedule.specs.Accesses.{byte_read}
use Rattle.trace.specs.Traced.{opening_at}
use Rattle.memory_order.specs.Checking.{left_by, source_at, source_of}
use Rattle.memory_order.proofs.Bounding.{range_last}
use Rattle.memory_order.proofs.Sourcing.{load_within}
use Rattle.memory_order.proofs.Valuing.{reads_here, source_listed}
use Rattle.memory_order.proofs.checking.values.load_is_right.Goals as goal

pub source_at-source-requires : goal.source_at-source-requires
source_at-source-requires c =
    let l = load_within c.args.events.now c.args.order.now c.args.reader c.position_of-position.result c.event_at-event.result.access c.requires.lists
    (ap (λ (e : Event). e.access) c.event_at-event.ensures.at) c.position_of-position.ensures.at (sym c.loads.ensures ∙ c.if-not-loads.false) in
    omega (arith, l, c.requires.sourced.len)

pub byte_left-requires-clause-listed : goal.byte_left-requires-clause-listed
byte_left-requires-clause-listed c =
    let t = c.args.events.now in
    let g = c.args.order.now in
    let s = c.args.sources.now.items in
    let x = c.address-start.result + c.loop-k.k in
    let reads = reads_here t c.args.reader c.loop-k.k c.address-start.result c.byte_count-k-end.result c.event_at-event.result c.event_at-event.ensures.at
    (sym c.loads.ensures ∙ c.if-not-loads.false) c.address-start.ensures c.byte_count-k-end.ensures.count c.loop-k-test.true in
    let low = source_listed t g c.args.reader x (source_of g s c.args.reader x) c.requires.lists (c.requires.sourced.max c.args.reader x reads) in
    let is = c.source_at-source.ensures ∙ ap (λ p. source_at s p x) c.position_of-position.ensures.at in
    omega (arith, low, is)

pub loop-k-preserved : goal.loop-k-preserved
loop-k-preserved c = λ x h. elim (range_last c.address-start.result c.loop-k.k x h) [
  | inl old ↦ c.loop-k.invariant x old
  | inr same ↦
      ap (λ (f : Event). byte_read f.access x) (sym c.event_at-event.ensures.at)
      ∙ ap (λ y. byte_read c.event_at-event.result.access y) (sym same)
      ∙ sym c.byte_read.ensures ∙ c.if-byte_read-byte_left.false ∙ c.byte_left.ensures
      ∙ ap (λ v. left_by c.args.events.now (opening_at c.args.trace.now.opening) c.args.order.now (c.address-start.result + c.loop-k.k) v) (c.source_at-source.ensures ∙ ap (λ p. source_at c.args.sources.now.items p (c.address-start.result + c.loop-k.k)) c.position_of-position.ensures.at)
      ∙ ap (λ y. left_by c.args.events.now (opening_at c.args.trace.now.opening) c.args.order.now y (source_of c.args.order.now c.args.sources.now.items c.args.reader y)) same
]
