-- Loads and branches, by what they do.
use Rattle.std.specs.Prelude.{◌≡◌, ℕ, ◌%◌, Bool, List}
use Rattle.pages.specs.declared.access.Width.{Width}
use Rattle.rv64_decode.specs.declared.instruction.Instr.{Instr}
use Rattle.hart_step.specs.Effect.{Branch, Read, action}

-- an instruction is a plain load
abbrev pub LoadsPlainly : Instr → Type 0
LoadsPlainly i = (x : List ℕ) (pc : ℕ) → (rd address : ℕ) × (w : Width) × (signed : Bool) × (action i x pc ≡ Read rd address w signed)

-- at this address it is a branch to where an instruction can stand
abbrev pub BranchesAt : Instr → ℕ → Type 0
BranchesAt i pc = (x : List ℕ) → (taken : Bool) × (target : ℕ) × (action i x pc ≡ Branch taken target) × (target % 4 ≡ 0)
