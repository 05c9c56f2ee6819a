-- The trace of a machine of a run is a round trace over the bytes that memory opened with.
use Rattle.std.proofs.Common.{◌≡◌, ℕ, List, slice_index, sym, ap, ◌∙◌, subst}
use Rattle.round_schedule.specs.declared.event.Event.{Event}
use Rattle.round_schedule.specs.RoundTrace.{IsRoundTrace}
use Rattle.round_schedule.proofs.Runs.{traces}
use Rattle.round_planner.specs.Quotas.{Planned, quotas_of}
use Rattle.hart_step.specs.declared.hart.Hart.{Hart}
use Rattle.hart_step.specs.Console.{ConsoleState}
use Rattle.hart_step.specs.Words.{words_of}
use Rattle.hart_step.proofs.Soundness.{sound}
use Rattle.trace.specs.Traced.{Traced, opening_at}
use Rattle.machine.specs.Machine.{Running, after_rounds, opening}
use Rattle.machine.specs.Untraced.{IsOfRun}

pub round_trace : (m : Running) (t : Traced) → IsOfRun m → t.events ≡ m.state.trace → ((x : ℕ) → opening_at t.opening x ≡ slice_index m.opening x) →
    IsRoundTrace t.events (opening_at t.opening) m.plan.budget
round_trace m t r events opened =
    subst (λ (p : Planned). IsRoundTrace t.events (opening_at t.opening) p.budget) (sym (ap (λ (n : Running). n.plan) r.is))
    (subst (λ (es : List Event). IsRoundTrace es (opening_at t.opening) r.plan.budget) (sym (events ∙ ap (λ (n : Running). n.state.trace) r.is))
    (subst (λ (f : ℕ → ℕ). IsRoundTrace (after_rounds r.rounds (opening r.image r.input r.plan)).state.trace f r.plan.budget) (sym same) of_image))
  where
    of_image : IsRoundTrace (after_rounds r.rounds (opening r.image r.input r.plan)).state.trace (λ x. slice_index r.image.bytes x) r.plan.budget
    of_image = traces Hart ConsoleState (words_of r.image.code) (sound r.image.code) r.plan.budget (quotas_of r.plan) r.rounds _ r.image.bytes _ r.bytes

    at_byte : (x : ℕ) → opening_at t.opening x ≡ slice_index r.image.bytes x
    at_byte x = opened x ∙ ap (λ (n : Running). slice_index n.opening x) r.is

    same : opening_at t.opening ≡ (λ x. slice_index r.image.bytes x)
    same = λ i. λ x. at_byte x i
