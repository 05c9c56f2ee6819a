-- The verdict of a walk over a run.
use Rattle.std.proofs.Common.{◌≡◌, ℕ, ◌+◌, ◌-◌, ◌<◌, ◌≤◌, ◌∙◌, List, length, map, get_or, slice_get, Some, refl, sym, ap, subst, arith, inl, inr}
use Rattle.std.specs.Prelude.{◌⊎◌}
use Rattle.machine.specs.Machine.{Running, after_rounds}
use Rattle.machine.specs.Untraced.{IsUntraced, Untraced}
use Rattle.machine.specs.Walks.{HasDone}
use Rattle.machine.proofs.Repeated.{more_rounds, no_rounds}
use Rattle.recording.specs.Recorded.{Checkpoint}
use Rattle.kept_states.specs.declared.keeping.Seen.{Seen}
use Rattle.replayer.specs.declared.verdict.Verdict.{Verdict}
use Rattle.replayer.specs.declared.verdict.Verdict.TheVariants.{Same, Differs}
use Rattle.replayer.specs.Replayed.{IsNextVerdict, IsVerdictOn}
use Rattle.kept_states.specs.Summaries.{IsSeenOf, checkpoint_in, checkpoint_of}
use Rattle.replayer.specs.Visits.{HasCompared, IsVerdictUpTo}
use Rattle.replayer.proofs.First.{one_more, none_more, placed, size}
use Rattle.kept_states.proofs.SeenOf.{seen_is}
use Rattle.replayer.proofs.Verdicts.{up_to_next}

-- before the first of these rounds
pub none_compared : (ks : List Checkpoint) (every : ℕ) (v : Verdict) (start : Untraced) (rounds : ℕ) → start.rounds + rounds ≤ length ks → HasCompared ks every v v start rounds 0
none_compared ks every v start rounds few = (few, λ m i is. let none : start.rounds ≡ start.rounds + 0 = omega arith in subst (λ (n : ℕ). IsVerdictUpTo ks every m n v) none is)

-- one more round
pub compared_next : (ks : List Checkpoint) (every : ℕ) (x : Checkpoint) (s : Seen) (start now : Untraced) (before v w : Verdict) (rounds done : ℕ) →
    HasCompared ks every before v start rounds done → HasDone (done + 1) start now → slice_get ks (start.rounds + done) ≡ Some x → ((m : Running) → IsUntraced m now → IsSeenOf s m.state) →
    IsNextVerdict v (x ≡ checkpoint_in every s) (start.rounds + done + 1) w → HasCompared ks every before w start rounds (done + 1)
compared_next ks every x s start now before v w rounds done h d at seen next = (
  h.0,
  λ m i first.
      let n : ℕ = start.rounds + done in
      let last : Running = after_rounds n m in
      let there : Running = after_rounds 1 last in
      let all : n + 1 ≡ start.rounds + (done + 1) = omega arith in
      let run : after_rounds (done + 1) (after_rounds start.rounds m) ≡ there = more_rounds start.rounds (done + 1) m ∙ ap (λ (k : ℕ). after_rounds k m) (sym all) ∙ sym (more_rounds n 1 m) in
      let same : checkpoint_in every s ≡ checkpoint_of every there.state =
      seen_is every s (after_rounds (done + 1) (after_rounds start.rounds m)).state (seen (after_rounds (done + 1) (after_rounds start.rounds m)) (d.run (after_rounds start.rounds m) i)) ∙ ap (λ (r : Running). checkpoint_of every r.state) run in
      subst (λ (k : ℕ). IsVerdictUpTo ks every m k w) all
      (up_to_next ks every m n (x ≡ checkpoint_in every s) v w
      (λ p. one_more ks every m last there n x refl refl at (p ∙ same))
      (λ q. none_more ks every m last there n x refl refl at (λ e. q (e ∙ sym same)))
      (h.1 m i first) next),
)

-- the same of what is kept at the round's place of a list
pub compared_round : {X : Type 0} (f : X → Checkpoint) (xs ys : List X) (every other i : ℕ) (x : X) (s : Seen) (start now : Untraced) (before v w : Verdict) (rounds done : ℕ) →
    xs ≡ ys → every ≡ other → done < rounds → HasCompared (map f ys) other before v start rounds done → HasDone (done + 1) start now → i ≡ now.rounds - 1 → s.round ≡ now.rounds →
    x ≡ get_or xs i x → ((m : Running) → IsUntraced m now → IsSeenOf s m.state) → IsNextVerdict v (f x ≡ checkpoint_in every s) s.round w → HasCompared (map f ys) other before w start rounds (done + 1)
compared_round {X} f xs ys every other i x s start now before v w rounds done same alike few h d e number is seen next =
    let place : i ≡ start.rounds + done = omega (arith, e, d.rounds) in
    let lt : i < length xs = omega (arith, few, h.0, size f ys, ap length same, place) in
    let at : slice_get (map f ys) (start.rounds + done) ≡ Some (f x) =
    subst (λ (zs : List X). slice_get (map f zs) (start.rounds + done) ≡ Some (f x)) same (subst (λ (n : ℕ). slice_get (map f xs) n ≡ Some (f x)) place (placed f xs i x lt is)) in
    let round : s.round ≡ start.rounds + done + 1 = omega (arith, number, d.rounds) in
    compared_next (map f ys) other (f x) s start now before v w rounds done h d at seen
    (subst (λ (n : ℕ). IsNextVerdict v (f x ≡ checkpoint_in other s) n w) round (subst (λ (n : ℕ). IsNextVerdict v (f x ≡ checkpoint_in n s) s.round w) alike next))

-- all rounds, or the first difference
ended : (ks : List Checkpoint) (every : ℕ) (v : Verdict) (rounds done : ℕ) (m : Running) → rounds ≡ length ks → done ≤ rounds → (done ≡ rounds) ⊎ (v ≡ Same → ⊥) →
    IsVerdictUpTo ks every m done v → IsVerdictOn ks every m v
ended ks every Same rounds done m e few (inl all) is = λ j lo hi. is j lo (omega (arith, all, e, hi))
ended ks every Same rounds done m e few (inr differs) is = absurd (differs refl)
ended ks every (Differs k) rounds done m e few end is = (is.0, omega (arith, is.1, few, e), is.2, is.3)

-- a run from its first round
pub compared_all : (ks : List Checkpoint) (every : ℕ) (v : Verdict) (start : Untraced) (rounds done : ℕ) (m : Running) → start.rounds ≡ 0 → rounds ≡ length ks → HasCompared ks every Same v start rounds done →
    done ≤ rounds → (done ≡ rounds) ⊎ (v ≡ Same → ⊥) → IsUntraced m start → IsVerdictOn ks every m v
compared_all ks every v start rounds done m opened whole h few end i =
    let first : IsUntraced (after_rounds start.rounds m) start = subst (λ (r : Running). IsUntraced r start) (no_rounds m ∙ ap (λ (k : ℕ). after_rounds k m) (sym opened)) i in
    let sum : start.rounds + done ≡ done = omega (arith, opened) in
    ended ks every v rounds done m whole few end (subst (λ (n : ℕ). IsVerdictUpTo ks every m n v) sum (h.1 m first (λ j lo hi. absurd (omega (arith, lo, hi, opened)))))

-- the next rounds of a run of which n are done
pub compared_more : (ks js : List Checkpoint) (every other : ℕ) (v w : Verdict) (start : Untraced) (k rounds n : ℕ) (m now : Running) → js ≡ ks → other ≡ every → k ≡ rounds →
    now ≡ after_rounds n m → now.state.rounds ≡ n → IsUntraced now start → HasCompared js other v w start rounds k → IsVerdictUpTo ks every m n v → IsVerdictUpTo ks every m (n + rounds) w
compared_more ks js every other v w start k rounds n m now same alike all there counted i h is =
    let here : start.rounds ≡ n = i.rounds ∙ counted in
    let first : IsUntraced (after_rounds start.rounds m) start = subst (λ (r : Running). IsUntraced r start) (there ∙ ap (λ (j : ℕ). after_rounds j m) (sym here)) i in
    let those : HasCompared ks every v w start rounds rounds =
    subst (λ (xs : List Checkpoint). HasCompared xs every v w start rounds rounds) same
    (subst (λ (e : ℕ). HasCompared js e v w start rounds rounds) alike (subst (λ (j : ℕ). HasCompared js other v w start rounds j) all h)) in
    subst (λ (j : ℕ). IsVerdictUpTo ks every m (j + rounds) w) here (those.1 m first (subst (λ (j : ℕ). IsVerdictUpTo ks every m j v) (sym here) is))
