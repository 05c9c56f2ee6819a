-- Why a file is refused: tables of causes by number, the least of which is answered.
use Rattle.std.specs.Prelude.{◌≡◌, ℕ, ◌*◌, ◌%◌, ◌<◌, ◌⊎◌, ◌≢◌, List, length}
use Rattle.host_io.specs.RunErrors.{image_number}
use Rattle.host_io.specs.declared.load_error.LoadError.{LoadError}
use Rattle.host_io.specs.declared.load_error.LoadError.TheVariants as causes

-- the cause stands in a flat file for so many pages
abbrev pub StandsInFlat : List ℕ → ℕ → LoadError → Type 0
StandsInFlat file pages causes.PastMemory = 4096 * pages < length file
StandsInFlat file pages causes.FlatLength = (length file ≡ 0) ⊎ (length file % 4 ≢ 0)
StandsInFlat file pages _ = ⊥

-- it stands, and none of a lesser number does
pub record IsLeast (Stands : LoadError → Type 0) (cause : LoadError) : Type 0 where
  pub stands : Stands cause
  pub least : (other : LoadError) → image_number other < image_number cause → Stands other → ⊥

-- no cause stands
abbrev pub IsGood : (LoadError → Type 0) → Type 0
IsGood Stands = (cause : LoadError) → Stands cause → ⊥
