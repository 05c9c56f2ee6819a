use Rattle.std.proofs.Common.{◌≡◌, ℕ, ◌+◌, ◌≤◌, ◌==◌, ◌&&◌, max, if◌then◌else◌, ◌∙◌, ap, arith, below_more, subst, sym, true, IsTrue}
use Rattle.round_schedule.specs.declared.event.Event.{Event}
use Rattle.round_schedule.specs.Accesses.{writes}
use Rattle.memory_order.specs.Orders.{order_position}
use Rattle.memory_order.proofs.Facts.{within}
use Rattle.memory_order.proofs.Sources.{load_at, store_at}
use Rattle.memory_order.specs.Checking.{bound, source_of}
use Rattle.memory_order.proofs.Sourcing.{here_raised, respected_here, load_within, noted_step, others_stay, own_step, test_from_respected}
use Rattle.memory_order.proofs.checking.own.own_stores.Goals as goal

pub note_load-requires-clause-within : goal.note_load-requires-clause-within
note_load-requires-clause-within c = λ l.
    let k = load_within c.args.events.now c.args.order.now c.loop-i.i c.position_of-position.result c.event_at-event.result.access c.requires.lists
    (ap (λ (e : Event). e.access) c.event_at-event.ensures.at) c.position_of-position.ensures.at l in
    omega (arith, k, c.loop-i.invariant.len)

pub loop-i-preserved : goal.loop-i-preserved
loop-i-preserved c =
    let t = c.args.events.now in
    let g = c.args.order.now in
    let pos = order_position g in
    let i = c.loop-i.i in
    let p = c.position_of-position.result in
    let e = c.event_at-event.result in
    let was = c.loop-i.sources.items in
    let now = c.note_load.new.sources.items in
    let access = ap (λ (e : Event). e.access) c.event_at-event.ensures.at in
    record {
      own = own_step t pos i (p + 1) e (λ h x. bound c.loop-i.own h x) (λ h x. bound c.note_store.new.bounds h x)
          c.event_at-event.ensures.at (ap (λ n. n + 1) c.position_of-position.ensures.at)
          (subst (λ k. (h x : ℕ) → bound c.note_store.new.bounds h x ≡ (if h == k && writes c.event_at-event.result.access x then max (bound c.loop-i.own h x) (c.position_of-position.result + 1) else bound c.loop-i.own h x))
          c.from-hart.ensures (λ h x. c.in_ok-note_store.ensures h x))
          c.loop-i.invariant.own;
      len = c.note_load.ensures.len ∙ c.loop-i.invariant.len;
      sources = noted_step t pos i e (λ h x. bound c.loop-i.own h x) (λ r x. source_of g was r x) (λ r x. source_of g now r x)
          c.event_at-event.ensures.at
          (others_stay t g i p e.access was now c.requires.lists access c.position_of-position.ensures.at c.note_load.ensures.others)
          (here_raised g i p e.hart c.from-hart.result e.access was now (λ h x. bound c.loop-i.own h x) c.position_of-position.ensures.at c.from-hart.ensures c.note_load.ensures.raised)
          c.loop-i.invariant.own c.loop-i.invariant.sources;
      respected = below_more _ _ c.loop-i.invariant.respected
          (respected_here t pos i p e (λ h x. bound c.loop-i.own h x) c.event_at-event.ensures.at c.position_of-position.ensures.at c.loop-i.invariant.own
          (subst (λ k. (x : ℕ) → writes c.event_at-event.result.access x ≡ true → bound c.loop-i.own k x ≤ c.position_of-position.result) c.from-hart.ensures
          (c.may_store.ensures.0 c.if-not-may_store.false)));
    }

pub returns-then-not-may_store : goal.returns-then-not-may_store
returns-then-not-may_store c = λ respected.
    let t = c.args.events.now in
    let low = test_from_respected t (order_position c.args.order.now) c.loop-i.i c.position_of-position.result c.event_at-event.result (λ h x. bound c.loop-i.own h x)
    c.event_at-event.ensures.at c.position_of-position.ensures.at c.loop-i.invariant.own respected in
    let yes : IsTrue c.may_store.result = c.may_store.ensures.1
    (subst (λ k. (x : ℕ) → writes c.event_at-event.result.access x ≡ true → bound c.loop-i.own k x ≤ c.position_of-position.result) (sym c.from-hart.ensures) low) in
    cc

pub returns : goal.returns
returns c = (
  λ a b x before wa wb. let l = within c.args.events.now b (store_at c.args.events.now b x wb) in c.loop-i.invariant.respected b (omega (arith, l)) a x before wa wb,
  record {
    len = c.loop-i.invariant.len;
    max = λ r x h. let l = within c.args.events.now r (load_at c.args.events.now r x h) in c.loop-i.invariant.sources.noted r x h (omega (arith, l));
  },
)
