use Rattle.std.proofs.Common.{◌+◌, ℕ, [], List, length, sym, ap, ◌∙◌, subst, arith}
use Rattle.std.proofs.lemmas.Result.{on_ok_weaker}
use Rattle.pages.specs.Memory.{IsBytes, Memory}
use Rattle.round_planner.specs.Quotas.{quotas_of}
use Rattle.hart_step.specs.Words.{words_of}
use Rattle.hart_rounds.specs.Starts.{keeps_log}
use Rattle.hart_rounds.specs.declared.hart_end.HartEnd.{HartEnd}
use Rattle.guest_rounds.specs.Guests.{Shared, shared_of}
use Rattle.guest_rounds.specs.HartEnds.{AreEndsOf, AreFit}
use Rattle.guest_turns.specs.Asked.{ready_for_turns}
use Rattle.guest_turns.specs.ReservingTurnHarts.{turns_in_reserving_phase}
use Rattle.guest_turns.specs.TurnHarts.{turns_in_round}
use Rattle.guest_turns.proofs.HalfRounds.{bytes_here, ends_here, fit_here, many_here, rounds_here, tied_here, touches_here}
use Rattle.guest_turns.proofs.TurnHartsFound.{round_turns}
use Rattle.guest_turns.proofs.turn_harts.visit_turns.Goals as goal

pub visit_committed-requires-clause-rounds : goal.visit_committed-requires-clause-rounds
visit_committed-requires-clause-rounds g c κs within =
    let h = c.in_ok-half.ensures in
    let s = c.in_ok-half.half.shared in
    let logs = keeps_log c.args.crew.now.form in (
      logs,
      rounds_here logs c.args.plan.now c.args.done c.args.guest s c.in_ok-half.half.ends.items h,
      subst (λ (os : List HartEnd). AreEndsOf logs s.pages.memory (rounds_here logs c.args.plan.now c.args.done c.args.guest s c.in_ok-half.half.ends.items h) os) (sym c.as_slice.ensures.value)
          (ends_here logs c.args.plan.now c.args.done c.args.guest s c.in_ok-half.half.ends.items h),
      touches_here logs c.args.plan.now c.args.done c.args.guest s c.in_ok-half.half.ends.items h,
    )

pub visit_committed-requires-clause-few : goal.visit_committed-requires-clause-few
visit_committed-requires-clause-few g c κs within =
    omega (arith, many_here (keeps_log c.args.crew.now.form) c.args.plan.now c.args.done c.args.guest c.in_ok-half.half.shared c.in_ok-half.half.ends.items c.in_ok-half.ensures, ap length c.as_slice.ensures.value, c.requires.harts, c.harts-harts.ensures.harts, c.harts-harts.ensures.few_harts)

pub visit_committed-requires-clause-fits : goal.visit_committed-requires-clause-fits
visit_committed-requires-clause-fits g c κs within =
    subst (λ (os : List HartEnd). AreFit c.in_ok-half.half.shared.pages.memory os) (sym c.as_slice.ensures.value)
    (fit_here (keeps_log c.args.crew.now.form) c.args.plan.now c.args.done c.args.guest c.in_ok-half.half.shared c.in_ok-half.half.ends.items c.in_ok-half.ensures)

pub visit_committed-requires-clause-size : goal.visit_committed-requires-clause-size
visit_committed-requires-clause-size g c κs within =
    c.in_ok-half.ensures.size ∙ sym (many_here (keeps_log c.args.crew.now.form) c.args.plan.now c.args.done c.args.guest c.in_ok-half.half.shared c.in_ok-half.half.ends.items c.in_ok-half.ensures) ∙ sym (ap length c.as_slice.ensures.value)

pub returns : goal.returns
returns g c =
    let h = c.in_ok-half.ensures in
    let s = c.in_ok-half.half.shared in
    let os = c.in_ok-half.half.ends.items in
    let logs = keeps_log c.args.crew.now.form in
    let plan = c.args.plan.now in
    let n = c.args.done in
    let guest = c.args.guest in
    on_ok_weaker c.visit_committed.result
    (λ f es tied first k.
    let rs = rounds_here logs plan n guest s os h in
    subst (λ hss. g.V.TurnVisitor.knows first c.visit_committed.new.visitor hss [])
    (ap (λ (b : ℕ). turns_in_reserving_phase (words_of s.pages.memory.code) b (n + 1) 0 rs (ready_for_turns (shared_of s) rs)) c.budget-budget.ensures.budget
    ∙ round_turns plan n guest.harts s.pages s.reservations s.console.console es
    (bytes_here logs plan n guest s os h (subst IsBytes (ap (λ (m : Memory). m.bytes) c.pages.ensures) c.bytes_fit.ensures)) (tied_here logs plan n guest s os h es tied) h.size
    ∙ ap (λ (x : Shared). turns_in_round (words_of x.memory.code) plan.budget (quotas_of plan) (record { harts = guest.harts; bytes = x.memory.bytes; console = x.console; trace = es; rounds = n })) h.shared)
    (f logs rs (subst (λ (xs : List HartEnd). AreEndsOf logs s.pages.memory rs xs) (sym c.as_slice.ensures.value) (ends_here logs plan n guest s os h)) first k))
    c.visit_committed.ensures
