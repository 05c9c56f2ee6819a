-- Runs of a hart against a list of stores to nobody's own bytes, from a spot on.
use Rattle.std.specs.Prelude.{◌≡◌, ℕ, ◌≤◌, Bool, true, false, List, [], ◌∷◌, length, Some}
use Rattle.pages.specs.Memory.{Memory}
use Rattle.hart_step.specs.DecodedCode.{decoded}
use Rattle.all_endings.specs.HartRuns.{IsPlaced, Stands}
use Rattle.all_endings.specs.RunStates.{Move, operates}
use Rattle.all_endings.specs.StoreLists.{Stored}
use Rattle.all_endings.specs.Tables.{memory_of}
use Rattle.private_bytes.specs.Owners.{is_private}
use Rattle.private_bytes.specs.PrivateMoves.{ActsApart}
use Rattle.private_bytes.specs.PrivateWalks.{IsLost, Spot, StandsForApart, spot_after}
use Rattle.list_suffixes.specs.KeptMoves.{IsMoveKept, IsOfThoseKept}
use Rattle.list_suffixes.specs.Staying.{AreShared, MayBeLaid, kept, laid, spot_kept}

-- a spot makes a move
pub record MovesApart (owns : ℕ → ℕ → Bool) (image : Memory) (h : ℕ) (m : List Stored) (opening : ℕ → ℕ) (p : Spot) (v : Move) : Type 0 where
  pub decodes : decoded image p.place.state.pc ≡ Some v.instruction
  pub acts : ActsApart owns image h m opening (IsPlaced h m) p.place.state v
  pub stands : operates v ≡ true → Stands p.place.state v

-- where moves lead from a spot
abbrev pub spots_after : (ℕ → ℕ → Bool) → ℕ → List Stored → Spot → List Move → Spot
spots_after owns h m p [] = p
spots_after owns h m p (v ∷ vs) = spots_after owns h m (spot_after owns h m p v) vs

-- one after another
abbrev pub RunsApart : (ℕ → ℕ → Bool) → Memory → ℕ → List Stored → (ℕ → ℕ) → Spot → List Move → Type 0
RunsApart owns image h m opening p [] = Unit {0}
RunsApart owns image h m opening p (v ∷ vs) = MovesApart owns image h m opening p v × RunsApart owns image h m opening (spot_after owns h m p v) vs

-- no spot of a run is lost
abbrev pub NoneLost : (ℕ → ℕ → Bool) → ℕ → List Stored → Spot → List Move → Type 0
NoneLost owns h m p [] = IsLost h m p.place → ⊥
NoneLost owns h m p (v ∷ vs) = (IsLost h m p.place → ⊥) × NoneLost owns h m (spot_after owns h m p v) vs

-- each operation of a run on shared bytes is of those that stay in the list
abbrev pub AreOfThoseKept : (ℕ → ℕ → Bool) → ℕ → List Bool → List Stored → Spot → List Move → Type 0
AreOfThoseKept owns h stays m p [] = Unit {0}
AreOfThoseKept owns h stays m p (v ∷ vs) =
    (operates v ≡ true → is_private owns h v.access ≡ false → IsOfThoseKept stays m p.place.state v) × AreOfThoseKept owns h stays m (spot_after owns h m p v) vs

-- moves with their times counted by the stores that stay
abbrev pub AreMovesKept : List Bool → List Stored → List Move → List Move → Type 0
AreMovesKept stays m [] [] = Unit {0}
AreMovesKept stays m (v ∷ vs) (u ∷ us) = IsMoveKept stays m v u × AreMovesKept stays m vs us
AreMovesKept stays m _ _ = ⊥

-- a spot stands for another one whatever the list is
abbrev pub StandsForAlways : Spot → Spot → Type 0
StandsForAlways p q = (m : List Stored) → StandsForApart m p q

-- a run of such operations is one against the stores that stay, from each spot that stands for where it begins, and what it comes to stands for
-- where it ends
abbrev pub RunsAreKept : Type 0
RunsAreKept =
    (owns : ℕ → ℕ → Bool) (image : Memory) (h : ℕ) (stays : List Bool) (m : List Stored) (opening : ℕ → ℕ) (a p : Spot) (vs : List Move) →
    length stays ≤ length m → MayBeLaid stays m → AreShared owns h m → length a.place.state.registers ≡ 32 → StandsForAlways p (spot_kept stays m a) →
    RunsApart owns image h m opening a vs → AreOfThoseKept owns h stays m a vs →
    (us : List Move) × AreMovesKept stays m vs us × RunsApart owns image h (kept stays m) (memory_of (laid stays m) opening) p us ×
    StandsForAlways (spots_after owns h (kept stays m) p us) (spot_kept stays m (spots_after owns h m a vs))
