use Rattle.std.proofs.Common.{ℕ, ◌∙◌, ap, arith, subst, sym}
use Rattle.round_schedule.specs.declared.event.Event.{Event}
use Rattle.round_schedule.specs.Accesses.{is_lr}
use Rattle.memory_order.specs.Orders.{order_position}
use Rattle.memory_order.specs.Checking.{source_at, source_of}
use Rattle.memory_order.specs.CheckingAtomic.{AtomicAt, latest_of, others_of}
use Rattle.memory_order.proofs.Atomicity.{UndisturbedByTest, atomic_from_test, lr_loads, others_max, test_from_atomic}
use Rattle.memory_order.proofs.Sourcing.{load_within}
use Rattle.memory_order.proofs.checking.atomic.is_atomic.Goals as goal

pub are_undisturbed-requires-clause-within : goal.are_undisturbed-requires-clause-within
are_undisturbed-requires-clause-within c =
    let access = ap (λ (e : Event). e.access) c.event_at-reserve.ensures.at in
    let l = load_within c.args.events.now c.args.order.now c.in-Some.first c.position_of-reader.result c.event_at-reserve.result.access c.requires.lists access c.position_of-reader.ensures.at
    (lr_loads c.event_at-reserve.result.access (ap is_lr access ∙ c.in-Some.ensures.1.reserved)) in
    omega (arith, l, c.requires.sourced.len)

pub returns-in-Some : goal.returns-in-Some
returns-in-Some c =
    let t = c.args.events.now in
    let g = c.args.order.now in
    let p = c.args.p in
    let s = c.args.sources.now.items in
    let first = c.in-Some.first in
    let hart = c.event_at-hart.result.hart in
    let e = c.event_at-reserve.result in
    let others = λ (x : ℕ). others_of (latest_of c.args.latest.now x) hart in
    let of = ap (λ (f : Event). f.hart) c.event_at-hart.ensures.at in
    let most = λ (x : ℕ). others_max t (order_position g) p x hart (latest_of c.args.latest.now x) (c.requires.latest x) in (
      λ h. subst (AtomicAt t (order_position g)) c.listed-index.ensures.at
          (atomic_from_test t g c.listed-index.result p first hart e others (λ x. source_of g s first x) c.requires.lists c.listed-index.ensures.position
          c.in-Some.ensures.1 c.event_at-reserve.ensures.at of most (λ x r. c.requires.sourced.max first x r)
          (subst (λ q. UndisturbedByTest e.access others (λ x. source_at s q x) p) c.position_of-reader.ensures.at (c.are_undisturbed.ensures.0 h))),
      λ a. c.are_undisturbed.ensures.1
          (subst (λ q. UndisturbedByTest e.access others (λ x. source_at s q x) p) (sym c.position_of-reader.ensures.at)
          (test_from_atomic t g c.listed-index.result p first hart e others (λ x. source_of g s first x) c.requires.lists c.listed-index.ensures.operation c.listed-index.ensures.position
          c.in-Some.ensures.1 c.event_at-reserve.ensures.at of most (λ x r. c.requires.sourced.max first x r)
          (subst (AtomicAt t (order_position g)) (sym c.listed-index.ensures.at) a))),
    )
