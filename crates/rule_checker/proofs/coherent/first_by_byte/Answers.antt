use Rattle.std.proofs.Common.{◌≡◌, ℕ, ◌+◌, ◌≤◌, ◌==◌, ◌&&◌, max, if◌then◌else◌, ap, arith, below_more, subst, sym, true, IsTrue}
use Rattle.round_schedule.specs.Accesses.{reads, writes}
use Rattle.memory_order.specs.Operations.{covers, is_operation}
use Rattle.memory_order.specs.Orders.{order_position}
use Rattle.memory_order.proofs.Facts.{within}
use Rattle.memory_order.specs.Checking.{bound, source_at, source_of}
use Rattle.rule_checker.specs.Bytes.{RespectsBytesAt, MayLoad}
use Rattle.rule_checker.proofs.Firsts.{first_at}
use Rattle.rule_checker.proofs.Coherence.{bytes_from_tests, load_from_respected, seen_by_step, touched_from_respected, touched_step}
use Rattle.memory_order.proofs.Sourcing.{load_within}
use Rattle.round_schedule.specs.declared.event.Event.{Event}
use Rattle.rule_checker.proofs.coherent.first_by_byte.Goals as goal

pub returns-then-not-may_store : goal.returns-then-not-may_store
returns-then-not-may_store c = first_at c.args.events.now (RespectsBytesAt c.args.events.now (order_position c.args.order.now)) c.loop-i.i c.loop-i.invariant.respected (λ respected.
    let yes : IsTrue c.may_store.result = c.may_store.ensures.1
    (subst (λ k. (x : ℕ) → writes c.event_at-event.result.access x ≡ true → bound c.loop-i.touched k x ≤ c.position_of-position.result) (sym c.from-hart.ensures)
    (touched_from_respected c.args.events.now c.args.order.now c.loop-i.i c.position_of-position.result c.event_at-event.result (λ h x. bound c.loop-i.touched h x)
    c.event_at-event.ensures.at c.position_of-position.ensures.at c.loop-i.invariant.touched respected)) in
    cc)

pub note_seen-requires-clause-within : goal.note_seen-requires-clause-within
note_seen-requires-clause-within c = λ l.
    let k = load_within c.args.events.now c.args.order.now c.loop-i.i c.position_of-position.result c.event_at-event.result.access c.requires.lists
    (ap (λ (e : Event). e.access) c.event_at-event.ensures.at) c.position_of-position.ensures.at l in
    omega (arith, k, c.requires.sourced.len)

pub returns-then-not-may_load : goal.returns-then-not-may_load
returns-then-not-may_load c = first_at c.args.events.now (RespectsBytesAt c.args.events.now (order_position c.args.order.now)) c.loop-i.i c.loop-i.invariant.respected (λ respected.
    let yes : IsTrue c.may_load.result = c.may_load.ensures.1
    (subst (λ k. MayLoad c.args.events.now c.args.order.now (λ x. bound c.loop-i.seen k x) (λ x. source_of c.args.order.now c.args.sources.now.items c.loop-i.i x) c.loop-i.i c.position_of-position.result) (sym c.from-hart.ensures)
    (load_from_respected c.args.events.now c.args.order.now c.loop-i.i c.position_of-position.result c.event_at-event.result (λ h x. bound c.loop-i.seen h x) (λ r x. source_of c.args.order.now c.args.sources.now.items r x)
    c.requires.lists c.event_at-event.ensures.at c.position_of-position.ensures.at c.loop-i.invariant.seen c.requires.sourced.max c.loop-i.invariant.respected respected)) in
    cc)

pub loop-i-preserved : goal.loop-i-preserved
loop-i-preserved c =
    let t = c.args.events.now in
    let g = c.args.order.now in
    let i = c.loop-i.i in
    let e = c.event_at-event.result in
    record {
      touched = touched_step t (order_position g) i (c.position_of-position.result + 1) e (λ h x. bound c.loop-i.touched h x) (λ h x. bound c.note_operation.new.bounds h x)
          c.event_at-event.ensures.at (ap (λ n. n + 1) c.position_of-position.ensures.at)
          (subst (λ k. (h x : ℕ) → bound c.note_operation.new.bounds h x ≡ (if h == k && (is_operation c.event_at-event.result && covers c.event_at-event.result.access x) then max (bound c.loop-i.touched h x) (c.position_of-position.result + 1) else bound c.loop-i.touched h x))
          c.from-hart.ensures (λ h x. c.in_ok-note_operation.ensures h x))
          c.loop-i.invariant.touched;
      seen = seen_by_step t (order_position g) i e (λ r x. source_of c.args.order.now c.args.sources.now.items r x) (λ h x. bound c.loop-i.seen h x) (λ h x. bound c.note_seen.new.seen h x)
          c.event_at-event.ensures.at
          (subst (λ k. (h x : ℕ) → bound c.note_seen.new.seen h x ≡ (if h == k && reads c.event_at-event.result.access x then max (bound c.loop-i.seen h x) (source_of c.args.order.now c.args.sources.now.items c.loop-i.i x) else bound c.loop-i.seen h x))
          c.from-hart.ensures
          (subst (λ p. (h x : ℕ) → bound c.note_seen.new.seen h x ≡ (if h == c.from-hart.result && reads c.event_at-event.result.access x then max (bound c.loop-i.seen h x) (source_at c.args.sources.now.items p x) else bound c.loop-i.seen h x))
          c.position_of-position.ensures.at (λ h x. c.in_ok-note_seen.ensures h x)))
          c.requires.sourced.max c.loop-i.invariant.seen;
      respected = below_more _ _ c.loop-i.invariant.respected (λ op.
          bytes_from_tests t g i c.position_of-position.result e (λ h x. bound c.loop-i.touched h x) (λ h x. bound c.loop-i.seen h x) (λ r x. source_of c.args.order.now c.args.sources.now.items r x)
          c.requires.lists c.event_at-event.ensures.at c.position_of-position.ensures.at c.loop-i.invariant.touched c.loop-i.invariant.seen c.requires.sourced.max
          (subst (λ k. (x : ℕ) → writes c.event_at-event.result.access x ≡ true → bound c.loop-i.touched k x ≤ c.position_of-position.result) c.from-hart.ensures
          (c.may_store.ensures.0 c.if-not-may_store.false))
          (subst (λ k. MayLoad t g (λ x. bound c.loop-i.seen k x) (λ x. source_of g c.args.sources.now.items i x) i c.position_of-position.result) c.from-hart.ensures
          (c.may_load.ensures.0 c.if-not-may_load.false)));
    }

pub returns : goal.returns
returns c = λ b op. c.loop-i.invariant.respected b (let l = within c.args.events.now b op in omega (arith, l)) op
