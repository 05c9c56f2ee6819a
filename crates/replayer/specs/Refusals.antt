-- Why a recording is refused by those who run it: the workers, then the image, then the plan, or want of memory.
use Rattle.std.specs.Prelude.{◌≡◌, ◌⊎◌, ℕ, Result, Err, IfErr}
use Rattle.round_planner.specs.Causes.{IsLeast as IsLeastOfPlan}
use Rattle.host_io.specs.declared.plan_error.PlanError.{PlanError as PlanCause}
use Rattle.elf_loader.specs.Causes.{IsGood, IsLeast as IsLeastOfImage}
use Rattle.host_io.specs.declared.load_error.LoadError.{LoadError as ImageCause}
use Rattle.host_io.specs.declared.error.RunError.{RunError}
use Rattle.host_io.specs.declared.error.RunError.TheVariants as refusals
use Rattle.round_planner.specs.Settings.{RefusedAs, StandsIn}
use Rattle.recording.specs.Recorded.{Recorded}
use Rattle.round_schedule.specs.Bounds.{AreNoWorkers, AreWorkers}
use Rattle.replayer.specs.Replayed.{format_of}

-- nothing speaks against its image
abbrev pub HasImage : Recorded → Type 0
HasImage r = IsGood (StandsIn (format_of r.format) r.image r.pages)

-- the cause of the least number that speaks against its image
abbrev pub HasImageCause : Recorded → ImageCause → Type 0
HasImageCause r cause = IsLeastOfImage (StandsIn (format_of r.format) r.image r.pages) cause

-- the cause of the least number that speaks against the text of its plan
abbrev pub HasPlanCause : Recorded → PlanCause → Type 0
HasPlanCause r cause = IsLeastOfPlan r.harts r.plan cause

-- a reason that stands to refuse its run, with workers in range
abbrev pub HasReason : Recorded → RunError → Type 0
HasReason r e =
    (e ≡ refusals.OutOfMemory)
    ⊎ ((cause : ImageCause) × HasImageCause r cause × (e ≡ refusals.Image cause))
    ⊎ ((cause : PlanCause) × HasPlanCause r cause × (e ≡ refusals.Plan cause))

-- refused in this order: a number of workers out of range, then the image by its least cause, and where nothing speaks against it,
-- the plan by its own least cause; and for no other reason
pub record RefusedInOrder {X : Type 0} (n : ℕ) (r : Recorded) (result : Result X RunError) : Type 0 where
  pub workers : AreNoWorkers n → result ≡ Err refusals.WorkersOutOfRange
  pub reasons : AreWorkers n → IfErr result (λ e. HasReason r e)
  pub image : (cause : ImageCause) → AreWorkers n → HasImageCause r cause → RefusedAs (refusals.Image cause) result
  pub plan : (cause : PlanCause) → AreWorkers n → HasImage r → HasPlanCause r cause → RefusedAs (refusals.Plan cause) result
