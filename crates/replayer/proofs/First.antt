-- The first round whose state is not what was kept of it.
use Rattle.std.proofs.Common.{◌≡◌, ℕ, zero, suc, [], ◌∷◌, get_or, ◌+◌, ◌-◌, ◌<◌, ◌≤◌, List, map, length, slice_get, Option, Some, refl, sym, ap, subst, ◌∙◌, arith, inl, inr}
use Rattle.std.proofs.lemmas.Bool.{cases_lt}
use Rattle.machine.specs.Machine.{Running, after_rounds}
use Rattle.machine.proofs.Repeated.{more_rounds}
use Rattle.recording.specs.Recorded.{Checkpoint}
use Rattle.replayer.specs.Replayed.{Agrees}
use Rattle.kept_states.specs.Summaries.{checkpoint_of}

-- the state after one more round, and what is kept at its place
pub one_more : (ks : List Checkpoint) (every : ℕ) (m now next : Running) (k : ℕ) (x : Checkpoint) → now ≡ after_rounds k m → next ≡ after_rounds 1 now → slice_get ks k ≡ Some x →
    x ≡ checkpoint_of every next.state → Agrees ks every m (k + 1)
one_more ks every m now next k x e f at same =
    let le : k + 1 - 1 ≡ k = omega arith in
    let there : next ≡ after_rounds (k + 1) m = f ∙ ap (after_rounds 1) e ∙ more_rounds k 1 m in
    rw le (at ∙ ap (λ (y : Checkpoint). Some y) same ∙ ap (λ (r : Running). Some (checkpoint_of every r.state)) there)

abbrev some_of : Checkpoint → Option Checkpoint
some_of x = Some x

some_is : (x y : Checkpoint) → some_of x ≡ some_of y → x ≡ y
some_is x y e = cc

pub none_more : (ks : List Checkpoint) (every : ℕ) (m now next : Running) (k : ℕ) (x : Checkpoint) → now ≡ after_rounds k m → next ≡ after_rounds 1 now → slice_get ks k ≡ Some x →
    (x ≡ checkpoint_of every next.state → ⊥) → Agrees ks every m (k + 1) → ⊥
none_more ks every m now next k x e f at other a =
    let le : k + 1 - 1 ≡ k = omega arith in
    let there : next ≡ after_rounds (k + 1) m = f ∙ ap (after_rounds 1) e ∙ more_rounds k 1 m in
    let b : slice_get ks (k + 1 - 1) ≡ Some (checkpoint_of every (after_rounds (k + 1) m).state) = a in
    let c : slice_get ks k ≡ Some (checkpoint_of every (after_rounds (k + 1) m).state) = subst (λ (n : ℕ). slice_get ks n ≡ Some (checkpoint_of every (after_rounds (k + 1) m).state)) le b in
    let d : some_of x ≡ some_of (checkpoint_of every next.state) = sym at ∙ c ∙ ap (λ (r : Running). Some (checkpoint_of every r.state)) (sym there) in
    other (some_is x (checkpoint_of every next.state) d)

pub up_to : (P : ℕ → Type 0) (k : ℕ) → ((j : ℕ) → 1 ≤ j → j ≤ k → P j) → P (k + 1) → (j : ℕ) → 1 ≤ j → j ≤ k + 1 → P j
up_to P k before here j lo hi = elim (cases_lt j (k + 1)) [ inl lt ↦ before j lo (omega (arith, lt)) | inr le ↦ subst P (omega (arith, le, hi)) here ]

pub placed : {X A : Type 0} (f : X → A) (xs : List X) (i : ℕ) (x : X) → i < length xs → x ≡ get_or xs i x → slice_get (map f xs) i ≡ Some (f x)
placed f [] i x lt e = absurd (omega (arith, lt))
placed {X} {A} f (y ∷ ys) zero x lt e = ap (λ (z : X). Some (f z)) (sym e)
placed f (y ∷ ys) (suc i) x lt e = placed f ys i x (omega (arith, lt)) e

pub size : {X A : Type 0} (f : X → A) (xs : List X) → length (map f xs) ≡ length xs
size f [] = refl
size f (x ∷ xs) = ap suc (size f xs)
