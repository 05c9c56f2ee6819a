use Rattle.std.proofs.Common.{◌≡◌, ℕ, ◌+◌, ◌==◌, ◌&&◌, max, if◌then◌else◌, ◌∙◌, ap, arith, subst, sym, true}
use Rattle.round_schedule.specs.declared.event.Event.{Event}
use Rattle.round_schedule.specs.Accesses.{reads, writes}
use Rattle.memory_order.specs.Orders.{order_position}
use Rattle.memory_order.proofs.Facts.{within}
use Rattle.memory_order.proofs.Sources.{load_at}
use Rattle.memory_order.specs.Checking.{bound, source_at, source_of}
use Rattle.memory_order.proofs.Sourcing.{here_raised, load_within, noted_step, others_stay, own_step}
use Rattle.rule_checker.proofs.own.own_sources.Goals as goal

pub note_load-requires-clause-within : goal.note_load-requires-clause-within
note_load-requires-clause-within c = λ l.
    let k = load_within c.args.events.now c.args.order.now c.loop-i.i c.position_of-position.result c.event_at-event.result.access c.requires.lists
    (ap (λ (e : Event). e.access) c.event_at-event.ensures.at) c.position_of-position.ensures.at l in
    omega (arith, k, c.loop-i.invariant.len)

pub loop-i-preserved : goal.loop-i-preserved
loop-i-preserved c =
    let t = c.args.events.now in
    let g = c.args.order.now in
    let pos = order_position g in
    let i = c.loop-i.i in
    let p = c.position_of-position.result in
    let e = c.event_at-event.result in
    let was = c.loop-i.sources.items in
    let now = c.note_load.new.sources.items in
    let access = ap (λ (e : Event). e.access) c.event_at-event.ensures.at in
    let none : (x : ℕ) → source_at was p x ≡ 0 = λ x. subst (λ q. source_at was q x ≡ 0) (sym c.position_of-position.ensures.at) (c.loop-i.invariant.sources.rest i x (omega arith)) in
    let raised : (x : ℕ) → reads e.access x ≡ true → source_at now p x ≡ max (source_at was p x) (bound c.loop-i.own c.from-hart.result x) =
    λ x r. let z = none x in let s = c.note_load.ensures.noted x r in omega (arith, z, s) in
    record {
      own = own_step t pos i (p + 1) e (λ h x. bound c.loop-i.own h x) (λ h x. bound c.note_store.new.bounds h x)
          c.event_at-event.ensures.at (ap (λ n. n + 1) c.position_of-position.ensures.at)
          (subst (λ k. (h x : ℕ) → bound c.note_store.new.bounds h x ≡ (if h == k && writes c.event_at-event.result.access x then max (bound c.loop-i.own h x) (c.position_of-position.result + 1) else bound c.loop-i.own h x))
          c.from-hart.ensures (λ h x. c.in_ok-note_store.ensures h x))
          c.loop-i.invariant.own;
      len = c.note_load.ensures.len ∙ c.loop-i.invariant.len;
      sources = noted_step t pos i e (λ h x. bound c.loop-i.own h x) (λ r x. source_of g was r x) (λ r x. source_of g now r x)
          c.event_at-event.ensures.at
          (others_stay t g i p e.access was now c.requires.lists access c.position_of-position.ensures.at c.note_load.ensures.others)
          (here_raised g i p e.hart c.from-hart.result e.access was now (λ h x. bound c.loop-i.own h x) c.position_of-position.ensures.at c.from-hart.ensures raised)
          c.loop-i.invariant.own c.loop-i.invariant.sources;
    }

pub returns : goal.returns
returns c = record {
  len = c.loop-i.invariant.len;
  max = λ r x h. let l = within c.args.events.now r (load_at c.args.events.now r x h) in c.loop-i.invariant.sources.noted r x h (omega (arith, l));
}
