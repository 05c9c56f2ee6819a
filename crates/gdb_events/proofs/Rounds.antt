-- What a round adds to the trace, and a trace that no round has added to.
use Rattle.std.proofs.Common.{◌≡◌, ℕ, zero, suc, ◌*◌, ◌<◌, ◌≤◌, List, [], ◌∷◌, ◌++◌, length, drop, All, refl, sym, ap, ◌∙◌, arith}
use Rattle.std.proofs.lemmas.List.Elements.{All-head, All-tail}
use Rattle.round_schedule.specs.Accesses.{place_of}
use Rattle.round_schedule.specs.Places.{Placed, count_at}
use Rattle.round_schedule.specs.declared.event.Event.{Event}
use Rattle.hart_step.specs.declared.hart.Hart.{Hart}
use Rattle.guest_rounds.specs.Held.{most_of_round}
use Rattle.machine.specs.Machine.{Running, after_rounds}
use Rattle.machine.specs.Untraced.{AreAdded, IsUntraced, Untraced}
use Rattle.gdb_events.specs.Rounds.{round_events}

behind_all : {A : Type 0} (xs ys : List A) → drop (length xs) (xs ++ ys) ≡ ys
behind_all [] ys = refl
behind_all (x ∷ xs) ys = behind_all xs ys

pub events_are : (m : Running) (u : Untraced) (es fs : List Event) → IsUntraced m u → es ≡ [] → AreAdded 1 u es fs → fs ≡ round_events m
events_are m u es fs is none added =
    let a = added m is in
    let t = m.state.trace in
    a.2 ∙ ap (λ (xs : List Event). xs ++ a.0) none
    ∙ sym (ap (λ (xs : List Event). drop (length t) xs) a.1 ∙ behind_all t a.0)

pub events_added : (m : Running) (u : Untraced) (es fs : List Event) → IsUntraced m u → AreAdded 1 u es fs →
    (after_rounds 1 m).state.trace ≡ m.state.trace ++ round_events m
events_added m u es fs is added =
    let a = added m is in
    let t = m.state.trace in
    a.1 ∙ ap (λ (xs : List Event). t ++ xs) (sym (ap (λ (xs : List Event). drop (length t) xs) a.1 ∙ behind_all t a.0))

-- before the first round there is no event
count_low : {H : Type 0} (done : H → ℕ) (n : ℕ) (hs : List H) (j : ℕ) → All (λ (h : H). done h ≤ n) hs → count_at done hs j ≤ n
count_low done n [] j few = omega arith
count_low {H} done n (h ∷ hs) zero few = All-head (λ (x : H). done x ≤ n) h hs few
count_low {H} done n (h ∷ hs) (suc j) few = count_low done n hs j (All-tail (λ (x : H). done x ≤ n) h hs few)

none_placed : {H : Type 0} (done : H → ℕ) (n : ℕ) (hs : List H) (t : List Event) → n ≡ 0 → Placed done n hs t → t ≡ []
none_placed done n hs [] none placed = refl
none_placed done n hs (e ∷ t) none placed =
    let below : place_of e.access < count_at done hs e.hart = placed.below 0 e (omega arith) in
    let low : count_at done hs e.hart ≤ n = count_low done n hs e.hart placed.counts in
    absurd (omega (arith, below, low, none))

pub none_before : (m : Running) (u : Untraced) → IsUntraced m u → u.rounds ≡ 0 → m.state.trace ≡ []
none_before m u is fresh =
    let none : m.state.rounds ≡ 0 = sym is.rounds ∙ fresh in
    none_placed (λ (h : Hart). h.done) (most_of_round * m.state.rounds) m.state.harts m.state.trace (ap (λ (k : ℕ). most_of_round * k) none) is.placed
