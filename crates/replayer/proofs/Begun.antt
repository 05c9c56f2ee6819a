-- What a recording's run begins with, once it is accepted.
use Rattle.std.proofs.Common.{◌≡◌, inl, inr, ℕ, ◌<◌, ◌≤◌, List, length, Result, Ok, ap, refl, subst, sym, ◌∙◌, arith}
use Rattle.host_io.specs.declared.load_error.LoadError.{LoadError as ImageCause}
use Rattle.round_planner.specs.Quotas.{Planned}
use Rattle.host_io.specs.declared.plan_error.PlanError.{PlanError as PlanCause}
use Rattle.host_io.specs.declared.plan_error.PlanError.TheVariants as causes
use Rattle.round_planner.proofs.Unique.{unique}
use Rattle.host_io.specs.declared.error.RunError.{RunError}
use Rattle.host_io.specs.declared.error.RunError.TheVariants as refusals
use Rattle.elf_loader.specs.Image.{Loaded}
use Rattle.machine.specs.Machine.{Running, opening}
use Rattle.machine.specs.Untraced.{IsUntraced, Untraced}
use Rattle.round_planner.specs.Settings.{IsPlan, IsPlanOf, RefusedAs, StandsIn, image_for, image_of, plan_of}
use Rattle.round_planner.specs.declared.settings.Format.{Format}
use Rattle.round_planner.specs.declared.settings.Settings.{Settings}
use Rattle.recording.specs.Recorded.{Recorded}
use Rattle.replayer.specs.Past.{Begins}
use Rattle.replayer.specs.Refusals.{HasImage, HasImageCause, HasPlanCause}
use Rattle.replayer.specs.Replayed.{IsPlanFor, format_of, start_of}
use Rattle.replayer.proofs.Counted.{none_done, opened_harts}
use Rattle.replayer.proofs.Quotas.{is_good, low_quotas}

abbrev accepted : {X : Type 0} → X → Result X RunError
accepted x = Ok x

not_refused : {X : Type 0} (x : X) (e : RunError) → RefusedAs e (accepted x) → ⊥
not_refused x e (inl h) = absurd cc
not_refused x e (inr h) = absurd cc

pub begins : {X : Type 0} (x : X) (r : Recorded) (plan : Planned) (hart : ℕ) → IsPlanFor r plan → hart < r.harts → r.budget ≤ 1000 →
    ((cause : ImageCause) → HasImageCause r cause → RefusedAs (refusals.Image cause) (accepted x)) →
    ((cause : PlanCause) → HasImage r → HasPlanCause r cause → RefusedAs (refusals.Plan cause) (accepted x)) → Begins (start_of r plan) hart
begins x r plan hart is lt few image numbers =
    let good : HasImage r = is_good (StandsIn (format_of r.format) r.image r.pages) (λ cause least. not_refused x (refusals.Image cause) (image cause least)) in
    let harts : plan.harts ≡ r.harts = ap (λ (p : Planned). p.harts) is.is_plan in
    let budget : plan.budget ≡ r.budget = ap (λ (p : Planned). p.budget) is.is_plan in
    record {
      rounds = refl;
      there = omega (arith, lt, harts, opened_harts (image_of (format_of r.format) r.image r.pages) r.input plan);
      fresh = λ h at. none_done (image_of (format_of r.format) r.image r.pages) r.input plan hart h at;
      quotas = low_quotas plan r.harts r.plan is.rows (ap (λ (p : Planned). p.rows) is.is_plan) is.is_text (λ least. not_refused x (refusals.Plan causes.QuotaOutOfRange) (numbers causes.QuotaOutOfRange good least));
      budget = omega (arith, few, budget);
    }

-- a recording has one plan
pub one_plan : (r : Recorded) (plan other : Planned) → IsPlanFor r plan → IsPlanFor r other → plan ≡ other
one_plan r plan other a b =
    a.is_plan ∙ ap (λ (rows : List (List (List ℕ))). plan_of r.harts rows r.budget) (unique r.plan a.rows b.rows a.is_text b.is_text) ∙ sym b.is_plan

-- it has as many harts as the recording says
pub harts_of : (r : Recorded) (plan : Planned) → IsPlanFor r plan → length (start_of r plan).state.harts ≡ r.harts
harts_of r plan is = opened_harts (image_of (format_of r.format) r.image r.pages) r.input plan ∙ ap (λ (p : Planned). p.harts) is.is_plan

-- the machine of settings that say what a recording does is that of its inputs
pub is_of_inputs : (s : Settings) (r : Recorded) (image input : List ℕ) (u : Untraced) → s.format ≡ format_of r.format → (s.harts ≡ r.harts) × (s.pages ≡ r.pages) → s.budget ≡ r.budget → s.plan.now ≡ r.plan → image ≡ r.image → input ≡ r.input →
    (plan : Planned) × IsPlan s plan × IsUntraced (opening (image_for s image) input plan) u → (plan : Planned) × IsPlanFor r plan × IsUntraced (start_of r plan) u
is_of_inputs s r image input u format machine budget text same_image same_input h =
    let planned : IsPlanFor r h.0 =
    subst (λ (n : ℕ). IsPlanOf n r.plan r.budget h.0) machine.0
    (subst (λ (t : List ℕ). IsPlanOf s.harts t r.budget h.0) text (subst (λ (n : ℕ). IsPlanOf s.harts s.plan.now n h.0) budget h.1)) in
    let loaded : image_for s image ≡ image_of (format_of r.format) r.image r.pages =
    ap (λ (f : Format). image_of f image s.pages) format ∙ ap (λ (file : List ℕ). image_of (format_of r.format) file s.pages) same_image ∙ ap (image_of (format_of r.format) r.image) machine.1 in
    let opened : opening (image_for s image) input h.0 ≡ start_of r h.0 =
    ap (λ (l : Loaded). opening l input h.0) loaded ∙ ap (λ (bytes : List ℕ). opening (image_of (format_of r.format) r.image r.pages) bytes h.0) same_input in
    (h.0, planned, subst (λ (m : Running). IsUntraced m u) opened h.2)
