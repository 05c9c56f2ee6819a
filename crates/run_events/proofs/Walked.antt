-- The events of a run whose rounds were walked through, all of them or as long as a hart runs.
use Rattle.std.proofs.Common.{◌≡◌, ℕ, ◌+◌, ◌-◌, ◌≤◌, List, [], ◌++◌, sym, ap, subst, ◌∙◌, arith, inl, inr}
use Rattle.std.specs.Prelude.{◌⊎◌}
use Rattle.round_schedule.specs.declared.event.Event.{Event}
use Rattle.machine.specs.Machine.{Running, after_rounds}
use Rattle.machine.specs.Untraced.{HasRun, IsUntraced, Untraced}
use Rattle.machine.specs.Walks.{HasStopped}
use Rattle.machine.proofs.Repeated.{more_rounds}
use Rattle.machine.proofs.UntracedRounds.{rounds_pass}

-- once no hart runs, no event is added
stays : (k n : ℕ) (u : Untraced) (m : Running) → k ≤ n → HasStopped u → IsUntraced (after_rounds k m) u → (after_rounds k m).state.trace ≡ (after_rounds n m).state.trace
stays k n u m few stopped is =
    let sum : k + (n - k) ≡ n = omega (arith, few) in
    sym (rounds_pass (n - k) u (after_rounds k m) stopped is).1
    ∙ ap (λ (r : Running). r.state.trace) (more_rounds k (n - k) m)
    ∙ ap (λ (j : ℕ). (after_rounds j m).state.trace) sum

-- who kept none before has kept the events of all n rounds
pub keeps_all : (k n : ℕ) (u v : Untraced) (before after : List Event → Type 0) (m : Running) → HasRun k u v before after → k ≤ n → (k ≡ n) ⊎ HasStopped v →
    IsUntraced m u → m.state.trace ≡ [] → before [] → after (after_rounds n m).state.trace
keeps_all k n u v before after m ran few ended is none kept =
    let all = ran.events m [] is kept in
    let here : all.0 ≡ (after_rounds k m).state.trace = sym (all.1 ∙ ap (λ (es : List Event). es ++ all.0) none) in
    let there : (after_rounds k m).state.trace ≡ (after_rounds n m).state.trace =
    elim ended [ inl e ↦ ap (λ (j : ℕ). (after_rounds j m).state.trace) e | inr stopped ↦ stays k n v m few stopped (ran.run m is) ] in
    subst after (here ∙ there) all.2
