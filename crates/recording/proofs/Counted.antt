-- A recording has as many rounds as it says.
use Rattle.std.proofs.Common.{◌≡◌, ℕ, zero, suc, List, [], ◌∷◌, length, map, ap, refl}
use Rattle.recording.specs.Fields.{Field, HaveEach}
use Rattle.recording.specs.Recorded.{Recorded}
use Rattle.recording.specs.Grammar.{recording, checkpoint_after}

pub have_as_many : {A : Type 0} (n i : ℕ) (f : ℕ → Field A) (xs : List A) → HaveEach n i f xs → length xs ≡ n
have_as_many zero i f [] h = refl
have_as_many zero i f (x ∷ xs) h = absurd h
have_as_many (suc n) i f [] h = absurd h
have_as_many (suc n) i f (x ∷ xs) h = ap suc (have_as_many n (suc i) f xs h.1)

pub counted : (r : Recorded) → recording.Has r → length r.checkpoints ≡ r.rounds
counted r h = have_as_many r.rounds 1 (checkpoint_after r.harts r.every) r.checkpoints h.1.1.1.1.1.1.1.1.1.1.1

pub size_seen : {X A : Type 0} (f : X → A) (xs : List X) → length (map f xs) ≡ length xs
size_seen f [] = refl
size_seen f (x ∷ xs) = ap suc (size_seen f xs)
