-- The execution of a number, as a file.
use Rattle.std.specs.Prelude.{◌≡◌, ◌⊎◌, ℕ, List, length}
use Rattle.execution_file.specs.Recorded.{Recorded}
use Rattle.execution_scripts.specs.Findings.{IsAllowedFile}
use Rattle.execution_makers.specs.RunFiles.{is_flat}
use Rattle.host_io.specs.declared.error.RunError.TheVariants as refusals
use Rattle.host_io.specs.declared.load_error.LoadError.{LoadError as ImageCause}
use Rattle.hunter.specs.Hunts.{IsImageCause}
use Rattle.hunter.specs.declared.error.HuntError.TheVariants.{Run}
use Rattle.hunter.specs.declared.settings.HuntSettings.{HuntSettings}
use Rattle.weak_hunter.specs.declared.error.WeakHuntError.{WeakHuntError}
use Rattle.weak_hunter.specs.declared.error.WeakHuntError.TheVariants.{Hunt, Unconfirmed}

-- a file of this image and this input, for as many harts as the settings have, which says an execution that RVWMO allows
pub record IsAllowedExecution (s : HuntSettings) (file input : List ℕ) (r : Recorded) : Type 0 where
  pub flat : r.flat ≡ is_flat s.format
  pub pages : r.pages ≡ s.pages
  pub is_image : r.image ≡ file
  pub is_input : r.input ≡ input
  pub harts : length r.harts ≡ s.harts
  pub allowed : IsAllowedFile r

-- why the execution of a number isn't there, where the settings are in range: memory or the image is refused, or the checker doesn't
-- allow it
abbrev pub IsUnmade : HuntSettings → List ℕ → ℕ → WeakHuntError → Type 0
IsUnmade s file number (Hunt e) =
    (e ≡ Run refusals.OutOfMemory) ⊎ ((cause : ImageCause) × IsImageCause s file cause × (e ≡ Run (refusals.Image cause)))
IsUnmade s file number (Unconfirmed n) = n ≡ number
