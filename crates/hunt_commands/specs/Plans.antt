-- What `plan` prints, and why it ends without it.
use Rattle.std.specs.Prelude.{◌≡◌, ◌⊎◌, ◌||◌, ℕ, nat_lt, Bool, true, List}
use Rattle.command_line.specs.declared.settings.Plan.{Plan}
use Rattle.host_io.specs.declared.error.RunError.TheVariants as refusals
use Rattle.program_files.specs.Asked.{IsFamilyPlan}
use Rattle.program_files.specs.Failures.{IsCutEnd}
use Rattle.program_files.specs.declared.failure.CommandFailure.{CommandFailure}
use Rattle.program_files.specs.declared.failure.CommandFailure.TheVariants.{Refused}

-- no family has plans for so many harts
abbrev pub has_bad_harts : ℕ → Bool
has_bad_harts harts = nat_lt harts 1 || nat_lt 64 harts

-- the text is that of the plan of the family that the line asks for
abbrev pub IsAskedPlan : Plan → List ℕ → Type 0
IsAskedPlan asked text = (budget : ℕ) × IsFamilyPlan asked.seed asked.harts asked.number text budget

-- why the command ends without it: for the number of harts, for want of memory, or since the output failed
abbrev pub EndsPlan : Plan → Type 0 → CommandFailure → Type 0
EndsPlan asked failed f = ((has_bad_harts asked.harts ≡ true) × (f ≡ Refused refusals.HartsOutOfRange)) ⊎ IsCutEnd failed f
