-- Walks by what is known alone.
use Rattle.std.specs.Prelude.{◌≡◌, ℕ, ◌<◌, ◌⊎◌, Bool, true, List, length, Contains, Some}
use Rattle.pages.specs.Memory.{Memory}
use Rattle.rv64_decode.specs.declared.instruction.Instr.TheVariants.{Ecall}
use Rattle.hart_step.specs.declared.hart.Stop.{Stop}
use Rattle.hart_step.specs.DecodedCode.{decoded}
use Rattle.all_endings.specs.Halting.{Halts, KnowsRegisters}
use Rattle.all_endings.specs.RunStates.{Move, RunState}
use Rattle.all_endings.specs.StoreLists.{Stored}
use Rattle.private_bytes.specs.Owners.{KeepsToItself}
use Rattle.private_bytes.specs.PrivateWalks.{IsLost, Spot, place_apart, spot_after}
use Rattle.list_suffixes.specs.ApartRuns.{MovesApart}
use Rattle.list_suffixes.specs.Serving.{Node}
use Rattle.list_suffixes.specs.SettledWalks.{AreAhead, IsKnown}
use Rattle.settled_walks.specs.Within.{IsWithin}

-- some spot stands for what a move leads to, or that is lost
abbrev pub IsFollowedBy : (ℕ → ℕ → Bool) → ℕ → List Stored → Spot → Move → List Spot → Type 0
IsFollowedBy owns h m p v ps = AreAhead ps (spot_after owns h m p v) ⊎ IsLost h m (place_apart owns h m p.place v)

-- so of each known move of a spot
abbrev pub CoverKnown : (ℕ → ℕ → Bool) → ℕ → Memory → ℕ → List Stored → (ℕ → ℕ) → Spot → List Spot → Type 0
CoverKnown owns k image h m opening p ps =
    (v : Move) → p.place.count < k → MovesApart owns image h m opening p v → IsKnown owns h m v → IsFollowedBy owns h m p v ps

-- a hart doesn't end at a state
abbrev pub GoesOn : Memory → RunState → Type 0
GoesOn image a = (stop : Stop) → KnowsRegisters a → Halts image a stop → ⊥

-- a walk by what is known can go on from a spot
pub record IsTold (owns : ℕ → ℕ → Bool) (image : Memory) (harts h n : ℕ) (p : Spot) : Type 0 where
  pub apart : KeepsToItself owns image harts h p.place.state
  pub calls : decoded image p.place.state.pc ≡ Some Ecall → p.constant ≡ true
  pub within : IsWithin n p.place.state

-- what a walk by what is known asks of one spot
pub record IsKnownAt (owns : ℕ → ℕ → Bool) (k : ℕ) (image : Memory) (harts h : ℕ) (m : List Stored) (opening : ℕ → ℕ) (ps : List Spot) (p : Spot) : Type 0 where
  pub sized : length p.place.state.registers ≡ 32
  pub told : IsTold owns image harts h (length m) p
  pub moves : CoverKnown owns k image h m opening p ps

abbrev pub AreKnown : (ℕ → ℕ → Bool) → ℕ → Memory → ℕ → ℕ → List Stored → (ℕ → ℕ) → List Spot → Type 0
AreKnown owns k image harts h m opening ps = (p : Spot) → Contains ps p → IsKnownAt owns k image harts h m opening ps p

-- spots that the runs of hart h come to from those of a node by what is known alone: nothing that they hang on stands behind the node's stores
pub record IsKnownWalk (owns : ℕ → ℕ → Bool) (k : ℕ) (image : Memory) (harts h : ℕ) (n : Node) (ps : List Spot) : Type 0 where
  pub begins : (p : Spot) → Contains (n.spots h) p → AreAhead ps p
  pub sized : (p : Spot) → Contains ps p → length p.place.state.registers ≡ 32
  pub apart : (p : Spot) → Contains ps p → KeepsToItself owns image harts h p.place.state
  pub calls : (p : Spot) → Contains ps p → decoded image p.place.state.pc ≡ Some Ecall → p.constant ≡ true
  pub within : (p : Spot) → Contains ps p → IsWithin (length n.stores) p.place.state
  pub moves : (p : Spot) (v : Move) → Contains ps p → p.place.count < k → MovesApart owns image h n.stores n.memory p v → IsKnown owns h n.stores v →
      IsFollowedBy owns h n.stores p v ps
