-- What the files of a host are said to hold.
use Rattle.std.specs.Prelude.{ℕ, List}
use Rattle.program_files.specs.declared.files.FileFault.{FileFault}

-- bytes are all that the file of a path held when it was read; a beginning of that, and all of it where they are fewer than a number; all of it, if
-- they begin with a mark, and else a beginning; the same for one of two marks; and it couldn't be read, for a fault
pub record FileRelations : Type 1 where
  pub holds : List ℕ → List ℕ → Type 0
  pub begins : List ℕ → ℕ → List ℕ → Type 0
  pub marked : List ℕ → List ℕ → List ℕ → Type 0
  pub either : List ℕ → List ℕ → List ℕ → List ℕ → Type 0
  pub lacks : List ℕ → FileFault → Type 0
