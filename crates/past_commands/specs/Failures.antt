-- Names of no one object, for which a question about the past isn't answered.
use Rattle.std.specs.Prelude.{◌≡◌, ℕ, List, Some}
use Rattle.host_io.specs.declared.error.RunError.TheVariants as refusals
use Rattle.program_files.specs.Naming.{IsMissing, IsNoObject, first_missing}
use Rattle.program_files.specs.declared.failure.CommandFailure.{CommandFailure}
use Rattle.program_files.specs.declared.failure.CommandFailure.TheVariants.{Naming, Refused}

-- the image has no object of a name, or several, or memory was refused
abbrev pub IsNotNamed : List ℕ → List ℕ → CommandFailure → Type 0
IsNotNamed image name (Refused error) = error ≡ refusals.OutOfMemory
IsNotNamed image name (Naming fault) = IsNoObject image name fault
IsNotNamed image name _ = ⊥

-- it has none, or several, of the first of these names of which it has none or several, or memory was refused
abbrev pub IsUnnamed : List ℕ → List (List ℕ) → CommandFailure → Type 0
IsUnnamed image names (Refused error) = error ≡ refusals.OutOfMemory
IsUnnamed image names (Naming fault) = IsMissing image (first_missing image names) (Some fault)
IsUnnamed image names _ = ⊥
