use Rattle.std.proofs.Common.{◌+◌, ℕ, List, length, sym, ap, ◌∙◌, subst, arith}
use Rattle.std.proofs.lemmas.Result.{IfOk-weaker}
use Rattle.pages.specs.Memory.{IsBytes, Memory}
use Rattle.round_planner.specs.Quotas.{quotas_of}
use Rattle.hart_step.specs.Words.{words_of}
use Rattle.hart_rounds.specs.Starts.{keeps_log}
use Rattle.hart_rounds.specs.declared.hart_end.HartEnd.{HartEnd}
use Rattle.guest_rounds.specs.Guests.{Shared, shared_of}
use Rattle.guest_rounds.specs.HartEnds.{AreEndsOf, AreFit}
use Rattle.serial_phase.specs.Asking.{asks_in_round, asks_in_reserving_phase}
use Rattle.serial_phase.specs.Forgetting.{asks_number}
use Rattle.guest_turns.specs.Asked.{ready_for_turns}
use Rattle.guest_turns.proofs.HalfRounds.{bytes_here, ends_here, fit_here, many_here, rounds_here, tied_here, touches_here}
use Rattle.guest_turns.proofs.NumbersAsked.{round_asks}
use Rattle.guest_turns.proofs.number_asked.asks_in_round.Goals as goal

pub asks_in_turns-requires-clause-rounds : goal.asks_in_turns-requires-clause-rounds
asks_in_turns-requires-clause-rounds g c κs within =
    let h = c.in_ok-half.ensures in
    let s = c.in_ok-half.half.shared in
    let logs = keeps_log c.args.crew.now.form in (
      logs,
      rounds_here logs c.args.plan.now c.args.done c.args.guest s c.in_ok-half.half.ends.items h,
      subst (λ (os : List HartEnd). AreEndsOf logs s.pages.memory (rounds_here logs c.args.plan.now c.args.done c.args.guest s c.in_ok-half.half.ends.items h) os) (sym c.as_slice.ensures.value)
          (ends_here logs c.args.plan.now c.args.done c.args.guest s c.in_ok-half.half.ends.items h),
      touches_here logs c.args.plan.now c.args.done c.args.guest s c.in_ok-half.half.ends.items h,
    )

pub asks_in_turns-requires-clause-few : goal.asks_in_turns-requires-clause-few
asks_in_turns-requires-clause-few g c κs within =
    omega (arith, many_here (keeps_log c.args.crew.now.form) c.args.plan.now c.args.done c.args.guest c.in_ok-half.half.shared c.in_ok-half.half.ends.items c.in_ok-half.ensures, ap length c.as_slice.ensures.value, c.requires.harts, c.harts-harts.ensures.harts, c.harts-harts.ensures.few_harts)

pub asks_in_turns-requires-clause-fits : goal.asks_in_turns-requires-clause-fits
asks_in_turns-requires-clause-fits g c κs within =
    subst (λ (os : List HartEnd). AreFit c.in_ok-half.half.shared.pages.memory os) (sym c.as_slice.ensures.value)
    (fit_here (keeps_log c.args.crew.now.form) c.args.plan.now c.args.done c.args.guest c.in_ok-half.half.shared c.in_ok-half.half.ends.items c.in_ok-half.ensures)

pub asks_in_turns-requires-clause-size : goal.asks_in_turns-requires-clause-size
asks_in_turns-requires-clause-size g c κs within =
    c.in_ok-half.ensures.size ∙ sym (many_here (keeps_log c.args.crew.now.form) c.args.plan.now c.args.done c.args.guest c.in_ok-half.half.shared c.in_ok-half.half.ends.items c.in_ok-half.ensures) ∙ sym (ap length c.as_slice.ensures.value)

pub returns : goal.returns
returns g c =
    let h = c.in_ok-half.ensures in
    let s = c.in_ok-half.half.shared in
    let os = c.in_ok-half.half.ends.items in
    let logs = keeps_log c.args.crew.now.form in
    let plan = c.args.plan.now in
    let n = c.args.done in
    let guest = c.args.guest in
    IfOk-weaker c.asks_in_turns.result _ _ (λ b f es tied.
    round_asks logs plan n guest.harts s.pages s.reservations s.console.console es os b (ends_here logs plan n guest s os h)
    (bytes_here logs plan n guest s os h (subst IsBytes (ap (λ (m : Memory). m.bytes) c.pages.ensures) c.bytes_fit.ensures)) (tied_here logs plan n guest s os h es tied) h.size
    (λ ls rs a. f ls rs (subst (λ (xs : List HartEnd). AreEndsOf ls s.pages.memory rs xs) (sym c.as_slice.ensures.value) a)
    ∙ ap (λ (k : ℕ). asks_in_reserving_phase (words_of s.pages.memory.code) (asks_number s.pages.memory.code) k (n + 1) 0 rs (ready_for_turns (shared_of s) rs)) c.budget-budget.ensures.budget)
    ∙ ap (λ (x : Shared). asks_in_round (words_of x.memory.code) (asks_number x.memory.code) plan.budget (quotas_of plan) (record { harts = guest.harts; bytes = x.memory.bytes; console = x.console; trace = es; rounds = n })) h.shared) c.asks_in_turns.ensures
