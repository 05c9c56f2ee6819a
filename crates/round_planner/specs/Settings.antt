-- What a run is asked for: the ranges of its numbers, the image of its file, and its plan.
use Rattle.std.specs.Prelude.{◌≡◌, ◌⊎◌, ℕ, ◌≤◌, ◌||◌, nat_lt, if◌then◌else◌, List, Option, Some, None, Result, Err}
use Rattle.round_schedule.specs.declared.bounds.TheConstants.{MOST_HARTS, MOST_WORKERS}
use Rattle.host_io.specs.declared.error.RunError.{RunError}
use Rattle.host_io.specs.declared.error.RunError.TheVariants as refusals
use Rattle.elf_loader.specs.Causes.{IsGood, IsLeast as IsLeastOfImage, StandsInFlat}
use Rattle.elf_loader.specs.Elf.{elf_image}
use Rattle.elf_loader.specs.ElfCauses.{StandsInElf}
use Rattle.elf_loader.specs.Image.{Loaded, flat_image}
use Rattle.host_io.specs.declared.load_error.LoadError.{LoadError as ImageCause}
use Rattle.round_planner.specs.Causes.{IsLeast as IsLeastOfPlan}
use Rattle.round_planner.specs.Grammar.{IsPlanText, numbers_of}
use Rattle.round_planner.specs.Quotas.{Planned}
use Rattle.host_io.specs.declared.plan_error.PlanError.{PlanError as PlanCause}
use Rattle.round_planner.specs.declared.settings.Format.{Format}
use Rattle.round_planner.specs.declared.settings.Format.TheVariants.{Elf, Flat}
use Rattle.round_planner.specs.declared.settings.Settings.{Settings}

-- 1 to 64 harts, 1 to 16,384 pages, 1 to 16 workers, and a budget of 1 to 1,000
pub record IsInRange (s : Settings) : Type 0 where
  pub some_harts : 1 ≤ s.harts
  pub few_harts : s.harts ≤ MOST_HARTS
  pub some_pages : 1 ≤ s.pages
  pub few_pages : s.pages ≤ 16384
  pub some_workers : 1 ≤ s.workers
  pub few_workers : s.workers ≤ MOST_WORKERS
  pub some_budget : 1 ≤ s.budget
  pub few_budget : s.budget ≤ 1000

-- the refusal of numbers that are out of range; of several, the one of the least number
abbrev pub settings_fault : Settings → Option RunError
settings_fault s =
    if nat_lt s.harts 1 || nat_lt MOST_HARTS s.harts then Some refusals.HartsOutOfRange
    else (if nat_lt s.pages 1 || nat_lt 16384 s.pages then Some refusals.PagesOutOfRange
    else (if nat_lt s.workers 1 || nat_lt MOST_WORKERS s.workers then Some refusals.WorkersOutOfRange
    else (if nat_lt s.budget 1 || nat_lt 1000 s.budget then Some refusals.BudgetOutOfRange
    else None)))

-- the image of a file
abbrev pub image_of : Format → List ℕ → ℕ → Loaded
image_of Elf file pages = elf_image file pages
image_of Flat file pages = flat_image file pages

-- why a file is refused
abbrev pub StandsIn : Format → List ℕ → ℕ → ImageCause → Type 0
StandsIn Elf file pages cause = StandsInElf file pages cause
StandsIn Flat file pages cause = StandsInFlat file pages cause

-- the image of a file for a run with these settings
abbrev pub image_for : Settings → List ℕ → Loaded
image_for s file = image_of s.format file s.pages

-- nothing speaks against the file
abbrev pub IsImage : Settings → List ℕ → Type 0
IsImage s file = IsGood (StandsIn s.format file s.pages)

-- the cause of the least number that speaks against the file
abbrev pub IsImageCause : Settings → List ℕ → ImageCause → Type 0
IsImageCause s file cause = IsLeastOfImage (StandsIn s.format file s.pages) cause

-- the cause of the least number that speaks against the text of the plan
abbrev pub IsPlanCause : Settings → PlanCause → Type 0
IsPlanCause s cause = IsLeastOfPlan s.harts s.plan.now cause

-- a reason that stands to refuse a run before its first round, or want of memory
abbrev pub IsReason : Settings → List ℕ → RunError → Type 0
IsReason s file e =
    (e ≡ refusals.OutOfMemory)
    ⊎ ((cause : ImageCause) × IsImageCause s file cause × (e ≡ refusals.Image cause))
    ⊎ ((cause : PlanCause) × IsPlanCause s cause × (e ≡ refusals.Plan cause))

-- the run is refused so, if memory does for it
abbrev pub RefusedAs : {X : Type 0} → RunError → Result X RunError → Type 0
RefusedAs e r = (r ≡ Err e) ⊎ (r ≡ Err refusals.OutOfMemory)

-- refused in this order: numbers out of range, then the file by its least cause, and where nothing speaks against it, the plan by
-- its own least cause
pub record RefusedInOrder {X : Type 0} (s : Settings) (file : List ℕ) (r : Result X RunError) : Type 0 where
  pub settings : (e : RunError) → settings_fault s ≡ Some e → r ≡ Err e
  pub image : (cause : ImageCause) → settings_fault s ≡ None → IsImageCause s file cause → RefusedAs (refusals.Image cause) r
  pub plan : (cause : PlanCause) → settings_fault s ≡ None → IsImage s file → IsPlanCause s cause → RefusedAs (refusals.Plan cause) r

-- the plan of these rows
abbrev pub plan_of : ℕ → List (List (List ℕ)) → ℕ → Planned
plan_of harts rows budget = record { harts = harts; rows = numbers_of rows; budget = budget }

-- the plan is what a text says, for so many harts and this budget
pub record IsPlanOf (harts : ℕ) (text : List ℕ) (budget : ℕ) (plan : Planned) : Type 0 where
  pub rows : List (List (List ℕ))
  pub is_text : IsPlanText text rows
  pub is_plan : plan ≡ plan_of harts rows budget

-- the plan is what the text of the settings says, for their harts and budget
abbrev pub IsPlan : Settings → Planned → Type 0
IsPlan s plan = IsPlanOf s.harts s.plan.now s.budget plan
