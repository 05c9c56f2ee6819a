use Rattle.std.proofs.Common.{◌≡◌, ◌<◌, ℕ, List, ap, arith, replicate, rules, slice_index, subst, sym, ◌∙◌}
use Rattle.round_schedule.specs.declared.event.Event.{Event}
use Rattle.round_schedule.specs.Positions.{event}
use Rattle.execution_moments.specs.Times.{later_of}
use Rattle.execution_moments.proofs.Timing.{LatestSoFar, latest_all, latest_next, latest_none}
use Rattle.execution_moments.proofs.times.latest_loads.Goals as goal

pub loop-index-init : goal.loop-index-init
loop-index-init c =
    let t = c.args.events.now in
    let pos : ℕ → ℕ = λ i. slice_index c.args.positions.now i in
    let none : c.in_ok-latest.latest.items ≡ replicate 256 0 = c.in_ok-latest.ensures.items_if_clones_equal (λ y e. search rules) in
    subst (λ (xs : List ℕ). LatestSoFar t pos 0 xs c.new-found.result.items) (sym none)
    (subst (λ (ys : List ℕ). LatestSoFar t pos 0 (replicate 256 0) ys) (sym c.new-found.ensures.items) (latest_none t pos))

pub loop-index-preserved : goal.loop-index-preserved
loop-index-preserved c =
    let t = c.args.events.now in
    let pos : ℕ → ℕ = λ i. slice_index c.args.positions.now i in
    let k = c.loop-index.index in
    let e : c.event_of-event.result ≡ event t k = c.event_of-event.ensures in
    latest_next t pos k c.raise-here.result c.loop-index.latest.items c.raise-here.new.latest.items c.loop-index.found.items c.push.new.self.items c.loop-index.invariant c.raise-here.ensures.size
    (λ h l. c.raise-here.ensures.each h l ∙ ap (λ (d : Event). later_of h d (slice_index c.loop-index.latest.items h) (pos k)) e)
    (subst (λ (d : Event). d.hart < 256) e c.raise-here.ensures.few)
    (c.raise-here.ensures.here ∙ ap (λ (d : Event). slice_index c.raise-here.new.latest.items d.hart) e) c.in_ok-push.ensures.items

pub returns : goal.returns
returns c = latest_all c.args.events.now _ c.loop-index.index c.loop-index.latest.items c.loop-index.found.items (omega arith) c.loop-index.invariant
