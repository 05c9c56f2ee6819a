-- The files that executions are kept in. `given` says that of two states of the files the one is the other, but that the file of a path
-- was given a text, and `wasnt_given` that the file of a path couldn't be made or written.
use Rattle.std.specs.Prelude.{◌≡◌, ◌⊎◌, ℕ, ◌+◌, List, [], ◌∷◌, ◌++◌, codes, Option, Some, None, string_bytes}
use Rattle.std.specs.Fmt.{decimal}
use Rattle.execution_file.specs.Grammar.{execution}
use Rattle.execution_file.specs.Recorded.{Recorded}
use Rattle.program_files.specs.Failures.{out_of_memory}
use Rattle.program_files.specs.declared.failure.CommandFailure.{CommandFailure}
use Rattle.program_files.specs.declared.failure.CommandFailure.TheVariants.{Unwritten}

-- the file of a number in a folder
abbrev pub path_in : List ℕ → ℕ → List ℕ
path_in folder number = folder ++ (codes "/" ++ (decimal number ++ codes ".execution"))

-- the files of numbers n, n + 1, .. in a folder were given these executions, one after the other, and nothing else was written
abbrev pub AreGiven : {X : Type 0} → (X → X → List ℕ → List ℕ → Type 0) → List ℕ → ℕ → List Recorded → X → X → Type 0
AreGiven given folder n [] before after = after ≡ before
AreGiven {X} given folder n (e ∷ es) before after =
    (between : X) × given before between (path_in folder n) (execution.spelled e) × AreGiven given folder (n + 1) es between after

-- the executions were kept in files of a folder, from 1 on, once it was made; where there is no folder to keep them in, or none of them,
-- the files are as they were
abbrev pub AreSaved : {X : Type 0} → (X → X → List ℕ → List ℕ → Type 0) → Option (List ℕ) → List Recorded → X → X → Type 0
AreSaved given None es before after = after ≡ before
AreSaved given (Some folder) [] before after = after ≡ before
AreSaved {X} given (Some folder) (e ∷ es) before after = (made : X) × AreGiven given folder 1 (e ∷ es) made after

-- a file of the folder couldn't be made or written, or the folder has no name
abbrev pub IsUnwrittenIn : (List ℕ → Type 0) → List ℕ → CommandFailure → Type 0
IsUnwrittenIn wasnt_given folder (Unwritten path) =
    (number : ℕ) × (string_bytes path ≡ path_in folder number) × ((folder ≡ []) ⊎ wasnt_given (string_bytes path))
IsUnwrittenIn wasnt_given folder _ = ⊥

-- that, or memory was refused
abbrev pub IsUnsaved : (List ℕ → Type 0) → List ℕ → CommandFailure → Type 0
IsUnsaved wasnt_given folder failure = (failure ≡ out_of_memory) ⊎ IsUnwrittenIn wasnt_given folder failure

abbrev pub IsUnsavedIn : (List ℕ → Type 0) → Option (List ℕ) → CommandFailure → Type 0
IsUnsavedIn wasnt_given None failure = ⊥
IsUnsavedIn wasnt_given (Some folder) failure = IsUnsaved wasnt_given folder failure
