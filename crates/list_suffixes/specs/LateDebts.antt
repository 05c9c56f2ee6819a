-- Stores of the list that a hart owes, and can't do any more behind a late load: a branch on what it loads comes next (rule 11).
use Rattle.std.specs.Prelude.{◌≡◌, ◌≢◌, ℕ, ◌<◌, ◌%◌, ◌⊎◌, Bool, true, false, List, ◌∷◌, ◌++◌, length, slice_index_or, Some}
use Rattle.pages.specs.declared.access.Width.{Width}
use Rattle.pages.specs.Memory.{Memory}
use Rattle.rv64_decode.specs.declared.instruction.Instr.{Instr}
use Rattle.hart_step.specs.DecodedCode.{decoded}
use Rattle.hart_step.specs.Effect.{Branch, Read, action}
use Rattle.hart_step.specs.Numbers.{plus}
use Rattle.memory_order.specs.Operations.{covers}
use Rattle.memory_order.specs.Registers.{registers_of}
use Rattle.all_endings.specs.Earlier.{IsSized}
use Rattle.all_endings.specs.RunStates.{Move}
use Rattle.all_endings.specs.Stopping.{StopsAreKnown}
use Rattle.all_endings.specs.StoreLists.{Stored, has_byte, no_store}
use Rattle.private_bytes.specs.PrivateWalks.{Spot}
use Rattle.list_suffixes.specs.ApartRuns.{NoneLost, RunsApart, spots_after}
use Rattle.list_suffixes.specs.Serving.{IsOnItsWay}
use Rattle.list_suffixes.specs.SettledWalks.{IsKnown}

-- a plain load stands at an address, and right behind it a branch on what it loads, whose target an instruction can have
pub record IsBranchedOn (image : Memory) (pc : ℕ) : Type 0 where
  pub load : Instr
  pub there : decoded image pc ≡ Some load
  pub reads : (x : List ℕ) → (rd address : ℕ) × (w : Width) × (signed : Bool) × (action load x pc ≡ Read rd address w signed)
  pub some : (registers_of load).destination ≢ 0
  pub branch : Instr
  pub next : decoded image (plus pc 4) ≡ Some branch
  pub branches : (x : List ℕ) → (taken : Bool) × (target : ℕ) × (action branch x (plus pc 4) ≡ Branch taken target) × (target % 4 ≡ 0)
  pub steers : (registers_of branch).steers ≡ true
  pub by_it : ((registers_of branch).first ≡ (registers_of load).destination) ⊎ ((registers_of branch).second ≡ (registers_of load).destination)

-- hart h owes a store of the list at a spot
pub record Owes (h : ℕ) (m : List Stored) (p : Spot) : Type 0 where
  pub store : ℕ
  pub within : store < length m
  pub hart : (slice_index_or m store no_store).hart ≡ h
  pub owed : p.place.paid store ≡ false
  pub byte : ℕ
  pub has : has_byte (slice_index_or m store no_store) byte ≡ true

-- an operation on that byte that stands behind the list leaves the hart lost (rule 1)
abbrev pub TouchedDebtsAreLost : Type 0
TouchedDebtsAreLost =
    (owns : ℕ → ℕ → Bool) (image : Memory) (h : ℕ) (m e : List Stored) (opening : ℕ → ℕ) (q : Spot) (v : Move) (vs : List Move) (o : Owes h m q) → covers v.access o.byte ≡ true →
    RunsApart owns image h (m ++ e) opening q (v ∷ vs) → NoneLost owns h (m ++ e) q (v ∷ vs) → IsKnown owns h m v

-- a run that goes on by a load LATER, with a branch behind it, comes no further than to the branch, if none of its spots is lost
abbrev pub LateDebtsAreLost : Type 0
LateDebtsAreLost =
    StopsAreKnown → (owns : ℕ → ℕ → Bool) (image : Memory) (harts h : ℕ) (m e : List Stored) (opening : ℕ → ℕ) (q : Spot) (v : Move) (vs : List Move) →
    IsBranchedOn image q.place.state.pc → Owes h m q → IsSized q.place.state → RunsApart owns image h (m ++ e) opening q (v ∷ vs) → NoneLost owns h (m ++ e) q (v ∷ vs) →
    (IsKnown owns h m v → ⊥) → IsOnItsWay owns image harts h (length m) (v ∷ vs) (spots_after owns h (m ++ e) q (v ∷ vs))
