-- Whether the number in x17 is a constant of the code, as it has to be where a call comes.
use Rattle.std.specs.Prelude.{◌≡◌, ℕ, Bool, true, List, Some}
use Rattle.pages.specs.Memory.{Memory}
use Rattle.rv64_decode.specs.declared.instruction.Instr.{Instr}
use Rattle.hart_step.specs.DecodedCode.{decoded}
use Rattle.hart_step.specs.Effect.{Put, action}
use Rattle.memory_order.specs.Registers.{registers_of}
use Rattle.all_endings.specs.HartRuns.{IsPlaced}
use Rattle.all_endings.specs.RunStates.{Move, RunState}
use Rattle.all_endings.specs.StoreLists.{Stored}
use Rattle.private_bytes.specs.PrivateMoves.{ActsApart}
use Rattle.private_bytes.specs.PrivateWalks.{Spot, constant_after, looks_at_none}

-- an instruction looks at no register and at no memory, and puts a value into a register
pub record PutsConstant (i : Instr) : Type 0 where
  pub looks : looks_at_none (registers_of i) ≡ true
  pub puts : (x : List ℕ) (pc : ℕ) → (rd : ℕ) × (n : ℕ) × (action i x pc ≡ Put rd n)

-- whatever move an instruction makes, the number is a constant behind it
abbrev pub LeavesConstant : Bool → Instr → Type 0
LeavesConstant before i =
    (owns : ℕ → ℕ → Bool) (image : Memory) (h : ℕ) (m : List Stored) (opening : ℕ → ℕ) (a : RunState) (v : Move) → v.instruction ≡ i →
    ActsApart owns image h m opening (IsPlaced h m) a v → constant_after before v ≡ true

-- the same of each move from a spot
abbrev pub GoesOnConstant : Memory → Spot → Type 0
GoesOnConstant image p =
    (owns : ℕ → ℕ → Bool) (h : ℕ) (m : List Stored) (opening : ℕ → ℕ) (v : Move) → decoded image p.place.state.pc ≡ Some v.instruction →
    ActsApart owns image h m opening (IsPlaced h m) p.place.state v → constant_after p.constant v ≡ true
