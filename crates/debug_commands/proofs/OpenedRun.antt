-- The run that the settings of a recording's run lead to is that of the recording, and what refuses it refuses that.
use Rattle.std.proofs.Common.{◌≡◌, ◌⊎◌, ◌+◌, ◌^◌, ◌≤◌, Err, IfErr, IfOk, None, Ok, Result, inl, inr, ⊎_elim}
use Rattle.debug_commands.specs.Debuggees.{IsRefusal, IsRunOf}
use Rattle.gdb_runs.specs.Sessions.{IsReady, handed, image_of}
use Rattle.gdb_runs.specs.declared.debugged.Debugged.{Debugged}
use Rattle.gdb_session.specs.Serving.{begun}
use Rattle.host_io.specs.declared.error.RunError.{RunError}
use Rattle.host_io.specs.declared.error.RunError.TheVariants as refusals
use Rattle.host_io.specs.declared.load_error.LoadError.{LoadError as ImageCause}
use Rattle.host_io.specs.declared.plan_error.PlanError.{PlanError as PlanCause}
use Rattle.machine.specs.Machine.{opening}
use Rattle.machine.specs.Untraced.{IsUntraced}
use Rattle.recording.specs.Recorded.{Recorded}
use Rattle.replayer.specs.Refusals.{HasImage, HasImageCause, HasPlanCause, HasReason}
use Rattle.replayer.specs.Replayed.{IsPlanFor, format_of, start_of}
use Rattle.round_planner.specs.Quotas.{Planned}
use Rattle.round_planner.specs.Settings.{IsImage, IsImageCause, IsPlan, IsPlanCause, IsReason, RefusedAs, RefusedInOrder, image_for, settings_fault}
use Rattle.round_planner.specs.declared.settings.Settings.{Settings}

-- the settings are those of a recording's run
pub record HasSettings (r : Recorded) (s : Settings) : Type 0 where
  pub format : s.format ≡ format_of r.format
  pub harts : s.harts ≡ r.harts
  pub pages : s.pages ≡ r.pages
  pub rounds : s.rounds ≡ r.rounds
  pub is_budget : s.budget ≡ r.budget
  pub is_plan : s.plan.now ≡ r.plan

-- the plan and the first state are those of the recording
plan_for : (r : Recorded) (s : Settings) (plan : Planned) → HasSettings r s → IsPlan s plan → IsPlanFor r plan
plan_for r s plan h p = rw (h.harts, h.is_plan, h.is_budget) at p

start_for : (r : Recorded) (s : Settings) (plan : Planned) (d : Debugged) → HasSettings r s →
    IsUntraced (opening (image_for s r.image) r.input plan) d.timeline.start → IsUntraced (start_of r plan) d.timeline.start
start_for r s plan d h u = rw (h.format, h.pages) at u

pub run_of : (r : Recorded) (s : Settings) → HasSettings r s → (result : Result Debugged RunError) →
    IfOk result (λ d. (plan : Planned) × IsPlan s plan × IsUntraced (opening (image_for s r.image) r.input plan) d.timeline.start) →
    IfOk result (λ d. d.timeline.rounds ≡ s.rounds) → IfOk result (λ d. image_of d ≡ handed s.format r.image) →
    IfOk result (λ d. IsReady d begun.state.standing) → IfOk result (IsRunOf r)
run_of r s h (Ok d) run rounds image ready = record {
  plan = run.0;
  planned = plan_for r s run.0 h run.1;
  start = start_for r s run.0 d h run.2;
  rounds = rw h.rounds at rounds;
  image = rw h.format at image;
  ready = ready;
}
run_of r s h (Err e) run rounds image ready = tt

-- the causes are those of the recording
image_cause : (r : Recorded) (s : Settings) (cause : ImageCause) → HasSettings r s → HasImageCause r cause → IsImageCause s r.image cause
image_cause r s cause h is = rw (h.format, h.pages) is

image_cause_of : (r : Recorded) (s : Settings) (cause : ImageCause) → HasSettings r s → IsImageCause s r.image cause → HasImageCause r cause
image_cause_of r s cause h is = rw (h.format, h.pages) at is

good_image : (r : Recorded) (s : Settings) → HasSettings r s → HasImage r → IsImage s r.image
good_image r s h is = rw (h.format, h.pages) is

plan_cause : (r : Recorded) (s : Settings) (cause : PlanCause) → HasSettings r s → HasPlanCause r cause → IsPlanCause s cause
plan_cause r s cause h is = rw (h.harts, h.is_plan) is

plan_cause_of : (r : Recorded) (s : Settings) (cause : PlanCause) → HasSettings r s → IsPlanCause s cause → HasPlanCause r cause
plan_cause_of r s cause h is = rw (h.harts, h.is_plan) at is

reason_of : (r : Recorded) (s : Settings) (e : RunError) → HasSettings r s → IsReason s r.image e → HasReason r e
reason_of r s e h reason =
    ⊎_elim (λ memory. inl memory) (λ rest. ⊎_elim (λ of_image. inr (inl (of_image.0, image_cause_of r s of_image.0 h of_image.1, of_image.2)))
    (λ of_plan. inr (inr (of_plan.0, plan_cause_of r s of_plan.0 h of_plan.1, of_plan.2))) rest) reason

err_is : {X : Type 0} (d e : RunError) → ◌≡◌ {A = Result X RunError} (Err d) (Err e) → d ≡ e
err_is d e q = cc

refused_as : {X : Type 0} (d e : RunError) → RefusedAs {X = X} e (Err d) → (d ≡ e) ⊎ (d ≡ refusals.OutOfMemory)
refused_as d e h = ⊎_elim (λ q. inl (err_is d e q)) (λ q. inr (err_is d refusals.OutOfMemory q)) h

pub refusal_of : {X : Type 0} (r : Recorded) (s : Settings) → HasSettings r s → settings_fault s ≡ None → (result : Result X RunError) →
    RefusedInOrder s r.image result → IfErr result (λ e. IsReason s r.image e ⊎ ((e ≡ refusals.RoundsExhausted) × (2 ^ 32 ≤ s.rounds + 2))) →
    IfErr result (IsRefusal r)
refusal_of r s h none (Ok v) order reason = tt
refusal_of r s h none (Err e) order reason = record {
  image = λ cause is. refused_as e (refusals.Image cause) (order.image cause none (image_cause r s cause h is));
  plan = λ cause good is. refused_as e (refusals.Plan cause) (order.plan cause none (good_image r s h good) (plan_cause r s cause h is));
  reason = ⊎_elim (λ is. inl (reason_of r s e h is)) (λ many. inr (many.0, rw h.rounds at many.1)) reason;
}
