use Rattle.std.proofs.Common.{◌≡◌, ◌<◌, ◌+◌, ◌-◌, max, slice_set, ℕ, List, ap, arith, length, replicate, rules, slice_index, subst, sym, ◌∙◌}
use Rattle.round_schedule.specs.declared.event.Event.{Event}
use Rattle.round_schedule.specs.Positions.{event}
use Rattle.std.proofs.lemmas.List.{get_or_default}
use Rattle.execution_moments.specs.Times.{sooner_of}
use Rattle.execution_moments.proofs.Timing.{Delayed, delayed_all, delayed_next, delayed_none}
use Rattle.execution_moments.proofs.times.delay.Goals as goal

pub loop-index-init : goal.loop-index-init
loop-index-init c =
    let t = c.args.events.now in
    let pos : ℕ → ℕ = λ i. slice_index c.args.positions.now i in
    let none : c.in_ok-soonest.soonest.items ≡ replicate 256 c.args.end = c.in_ok-soonest.ensures.items_if_clones_equal (λ y e. search rules) in
    subst (λ (xs : List ℕ). Delayed t pos c.args.end (length t) xs c.args.times.now.items) (sym none) (delayed_none t pos c.args.end c.args.times.now.items c.requires.latest)

pub loop-index-preserved : goal.loop-index-preserved
loop-index-preserved c =
    let t = c.args.events.now in
    let pos : ℕ → ℕ = λ i. slice_index c.args.positions.now i in
    let j = c.loop-index.index - 1 in
    let times = c.loop-index.times.items in
    let e : c.event_of-event.result ≡ event t j = c.event_of-event.ensures in
    let next : c.loop-index.index ≡ j + 1 = omega (arith, c.loop-index-test.true) in
    let count : length times ≡ length t = c.loop-index.invariant.count in
    let old = get_or_default times j c.index.result.now 0 (omega (arith, next, c.loop-index.invariant.within, count)) in
    delayed_next t pos c.args.end c.loop-index.index j c.lower-here.result c.loop-index.soonest.items c.lower-here.new.soonest.items times
    (slice_set times j c.max.result) next c.loop-index.invariant c.lower-here.ensures.size
    (λ h l. c.lower-here.ensures.each h l ∙ ap (λ (d : Event). sooner_of h d (slice_index c.loop-index.soonest.items h) (pos j)) e)
    (subst (λ (d : Event). d.hart < 256) e c.lower-here.ensures.few)
    (c.lower-here.ensures.here ∙ ap (λ (d : Event). slice_index c.lower-here.new.soonest.items d.hart) e)
    (ap (λ (x : ℕ). slice_set times j x) (c.max.ensures ∙ ap (λ (x : ℕ). max x c.lower-here.result) (c.index.ensures ∙ old)))

pub returns : goal.returns
returns c = delayed_all c.args.events.now _ c.args.end c.loop-index.index c.loop-index.soonest.items c.loop-index.times.items (omega arith) c.loop-index.invariant
