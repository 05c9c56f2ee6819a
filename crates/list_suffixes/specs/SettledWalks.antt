-- Walks by what is known alone: how runs come past the spots that a node gets when some of its stores are laid into memory.
use Rattle.std.specs.Prelude.{◌≡◌, ℕ, ◌<◌, ◌≤◌, ◌⊎◌, Bool, true, false, List, ◌∷◌, ◌++◌, length, Contains, Some}
use Rattle.pages.specs.Memory.{Memory}
use Rattle.rv64_decode.specs.declared.instruction.Instr.TheVariants.{Ecall}
use Rattle.round_schedule.specs.Accesses.{stores as writing}
use Rattle.hart_step.specs.declared.hart.Stop.{Stop}
use Rattle.hart_step.specs.DecodedCode.{decoded}
use Rattle.all_endings.specs.Halting.{Halts, KnowsRegisters}
use Rattle.all_endings.specs.RunStates.{Move, operates}
use Rattle.all_endings.specs.StoreLists.{Stored}
use Rattle.private_bytes.specs.Owners.{KeepsToItself, is_private}
use Rattle.private_bytes.specs.PrivateWalks.{IsLost, Spot, place_apart, spot_after}
use Rattle.list_suffixes.specs.ApartRuns.{AreOfThoseKept, MovesApart, NoneLost, RunsApart, StandsForAlways, spots_after}
use Rattle.list_suffixes.specs.Serving.{ComePast, IsOnItsWay, Node}
use Rattle.list_suffixes.specs.Staying.{AreShared, spot_kept}

-- what a move does to shared bytes stands behind stores of the list alone, and a store is one of these
abbrev pub IsKnown : (ℕ → ℕ → Bool) → ℕ → List Stored → Move → Type 0
IsKnown owns h m v = operates v ≡ true → is_private owns h v.access ≡ false → (v.time ≤ length m) × (writing v.access ≡ true → v.time < length m)

-- some spots have one that stands for another
abbrev pub AreAhead : List Spot → Spot → Type 0
AreAhead ps q = (p : Spot) × Contains ps p × StandsForAlways p q

-- spots that the runs of hart h come to from those of a node by what is known alone. Where a run goes on by something else, or may end, there is a
-- new spot, with its times counted by the stores that stay, and the run is of these from there on; or the run is lost before it comes to anything
pub record IsSettledWalk (owns : ℕ → ℕ → Bool) (k : ℕ) (image : Memory) (harts h : ℕ) (stays : List Bool) (n : Node) (ps new : List Spot) : Type 0 where
  pub begins : (p : Spot) → Contains (n.spots h) p → AreAhead ps p
  pub sized : (p : Spot) → Contains ps p → length p.place.state.registers ≡ 32
  pub apart : (p : Spot) → Contains ps p → KeepsToItself owns image harts h p.place.state
  pub calls : (p : Spot) → Contains ps p → decoded image p.place.state.pc ≡ Some Ecall → p.constant ≡ true
  pub moves : (p : Spot) (v : Move) → Contains ps p → p.place.count < k → MovesApart owns image h n.stores n.memory p v → IsKnown owns h n.stores v →
      AreAhead ps (spot_after owns h n.stores p v) ⊎ IsLost h n.stores (place_apart owns h n.stores p.place v)
  pub late : (p q : Spot) (e : List Stored) (v : Move) (vs : List Move) → Contains ps p → StandsForAlways p q → AreShared owns h (n.stores ++ e) →
      RunsApart owns image h (n.stores ++ e) n.memory q (v ∷ vs) → NoneLost owns h (n.stores ++ e) q (v ∷ vs) → (IsKnown owns h n.stores v → ⊥) →
      (AreAhead new (spot_kept stays n.stores p) × AreOfThoseKept owns h stays (n.stores ++ e) q (v ∷ vs)) ⊎
      IsOnItsWay owns image harts h (length n.stores) (v ∷ vs) (spots_after owns h (n.stores ++ e) q (v ∷ vs))
  pub ends : (p : Spot) → Contains ps p → AreAhead new (spot_kept stays n.stores p) ⊎ ((stop : Stop) → KnowsRegisters p.place.state → Halts image p.place.state stop → ⊥)

-- then runs from the node's spots come past the new ones
abbrev pub SettledWalksComePast : Type 0
SettledWalksComePast =
    (owns : ℕ → ℕ → Bool) (k : ℕ) (image : Memory) (harts h : ℕ) (stays : List Bool) (n : Node) (ps new : List Spot) → length stays ≤ length n.stores →
    IsSettledWalk owns k image harts h stays n ps new → (p : Spot) → Contains (n.spots h) p → ComePast owns k image harts h stays n.stores n.memory p new
