use Rattle.std.proofs.Common.{◌-◌, ◌+◌, ℕ, List, length, get_or, sym, ap, ◌∙◌, subst, arith}
use Rattle.std.proofs.lemmas.Result.{IfOk-weaker}
use Rattle.pages.specs.Memory.{IsBytes, Memory}
use Rattle.hart_step.specs.declared.hart.Hart.{Hart}
use Rattle.hart_rounds.specs.Starts.{keeps_log}
use Rattle.hart_rounds.specs.declared.hart_end.HartEnd.{HartEnd}
use Rattle.guest_rounds.specs.Guests.{shared_of}
use Rattle.guest_rounds.specs.HartEnds.{AreEndsOf, AreFit}
use Rattle.guest_turns.specs.Asked.{found_in}
use Rattle.guest_turns.proofs.Asked.{there_is}
use Rattle.guest_turns.proofs.HalfRounds.{asked_half, ends_here, fit_here, many_here, no_hart, rounds_here, same_at, seen_half, touches_here}
use Rattle.guest_turns.proofs.hart_in_round.sight_in_round.Goals as goal

pub bounds-parts-hart : goal.bounds-parts-hart
bounds-parts-hart g c =
    omega (arith, many_here (keeps_log c.args.crew.now.form) c.args.plan.now c.args.done c.args.guest c.in_ok-half.half.shared c.in_ok-half.half.ends.items c.in_ok-half.ensures, ap length c.as_slice-parts.ensures.value, c.requires.hart)

pub overflow_cast-count : goal.overflow_cast-count
overflow_cast-count g c =
    let es = c.requires.run.0 in
    let tied = c.requires.run.1 in
    let h = c.in_ok-half.ensures in
    let s = c.in_ok-half.half.shared in
    let os = c.in_ok-half.half.ends.items in
    let logs = keeps_log c.args.crew.now.form in
    let plan = c.args.plan.now in
    let n = c.args.done in
    let guest = c.args.guest in
    let before = get_or c.harts-harts-2.result.now c.args.hart no_hart in
    let asked = asked_half logs plan n guest s os h es c.args.hart c.args.count c.done_since-in_part.result before c.index-parts-hart.result c.requires.hart
    (ap (λ (hs : List Hart). get_or hs c.args.hart no_hart) c.harts-harts-2.ensures ∙ same_at guest.harts c.args.hart no_hart before c.requires.hart) (c.index-parts-hart.is ∙ ap (λ (xs : List HartEnd). get_or xs c.args.hart c.index-parts-hart.result) c.as_slice-parts.ensures.value) c.done_since-in_part.ensures.count
    (subst IsBytes (ap (λ (m : Memory). m.bytes) c.pages.ensures) c.bytes_fit.ensures) tied c.requires.harts (c.harts-harts.ensures.in_range n) (c.harts-harts.ensures.quotas n) (omega (arith, c.budget-budget.ensures.budget, c.budget-budget.ensures.few_budget)) c.done_since-in_part.ensures.fits in
    omega (arith, asked.few, c.if-count-in_part.true)

pub overflow_cast-count-then-not-part : goal.overflow_cast-count-then-not-part
overflow_cast-count-then-not-part g c =
    let es = c.requires.run.0 in
    let tied = c.requires.run.1 in
    let h = c.in_ok-half.ensures in
    let s = c.in_ok-half.half.shared in
    let os = c.in_ok-half.half.ends.items in
    let logs = keeps_log c.args.crew.now.form in
    let plan = c.args.plan.now in
    let n = c.args.done in
    let guest = c.args.guest in
    let before = get_or c.harts-harts-2.result.now c.args.hart no_hart in
    let asked = asked_half logs plan n guest s os h es c.args.hart c.args.count c.done_since-in_part.result before c.index-parts-hart.result c.requires.hart
    (ap (λ (hs : List Hart). get_or hs c.args.hart no_hart) c.harts-harts-2.ensures ∙ same_at guest.harts c.args.hart no_hart before c.requires.hart) (c.index-parts-hart.is ∙ ap (λ (xs : List HartEnd). get_or xs c.args.hart c.index-parts-hart.result) c.as_slice-parts.ensures.value) c.done_since-in_part.ensures.count
    (subst IsBytes (ap (λ (m : Memory). m.bytes) c.pages.ensures) c.bytes_fit.ensures) tied c.requires.harts (c.harts-harts.ensures.in_range n) (c.harts-harts.ensures.quotas n) (omega (arith, c.budget-budget.ensures.budget, c.budget-budget.ensures.few_budget)) c.done_since-in_part.ensures.fits in
    omega (arith, asked.few, c.if-count-in_part-2.false)

pub returns-then-count-in_part : goal.returns-then-count-in_part
returns-then-count-in_part g c = λ es tied.
    let h = c.in_ok-half.ensures in
    let s = c.in_ok-half.half.shared in
    let os = c.in_ok-half.half.ends.items in
    let logs = keeps_log c.args.crew.now.form in
    let plan = c.args.plan.now in
    let n = c.args.done in
    let guest = c.args.guest in
    let before = get_or c.harts-harts-2.result.now c.args.hart no_hart in
    let asked = asked_half logs plan n guest s os h es c.args.hart c.args.count c.done_since-in_part.result before c.index-parts-hart.result c.requires.hart
    (ap (λ (hs : List Hart). get_or hs c.args.hart no_hart) c.harts-harts-2.ensures ∙ same_at guest.harts c.args.hart no_hart before c.requires.hart) (c.index-parts-hart.is ∙ ap (λ (xs : List HartEnd). get_or xs c.args.hart c.index-parts-hart.result) c.as_slice-parts.ensures.value) c.done_since-in_part.ensures.count
    (subst IsBytes (ap (λ (m : Memory). m.bytes) c.pages.ensures) c.bytes_fit.ensures) tied c.requires.harts (c.harts-harts.ensures.in_range n) (c.harts-harts.ensures.quotas n) (omega (arith, c.budget-budget.ensures.budget, c.budget-budget.ensures.few_budget)) c.done_since-in_part.ensures.fits in
    let seen = seen_half logs plan n guest s os h es c.args.hart c.args.count in
    sym c.in_ok-shorter_part.ensures ∙ sym (asked.early c.if-count-in_part.true) ∙ seen

pub returns-then-count-in_part-2 : goal.returns-then-count-in_part-2
returns-then-count-in_part-2 g c = λ es tied.
    let h = c.in_ok-half.ensures in
    let s = c.in_ok-half.half.shared in
    let os = c.in_ok-half.half.ends.items in
    let logs = keeps_log c.args.crew.now.form in
    let plan = c.args.plan.now in
    let n = c.args.done in
    let guest = c.args.guest in
    let before = get_or c.harts-harts-2.result.now c.args.hart no_hart in
    let asked = asked_half logs plan n guest s os h es c.args.hart c.args.count c.done_since-in_part.result before c.index-parts-hart.result c.requires.hart
    (ap (λ (hs : List Hart). get_or hs c.args.hart no_hart) c.harts-harts-2.ensures ∙ same_at guest.harts c.args.hart no_hart before c.requires.hart) (c.index-parts-hart.is ∙ ap (λ (xs : List HartEnd). get_or xs c.args.hart c.index-parts-hart.result) c.as_slice-parts.ensures.value) c.done_since-in_part.ensures.count
    (subst IsBytes (ap (λ (m : Memory). m.bytes) c.pages.ensures) c.bytes_fit.ensures) tied c.requires.harts (c.harts-harts.ensures.in_range n) (c.harts-harts.ensures.quotas n) (omega (arith, c.budget-budget.ensures.budget, c.budget-budget.ensures.few_budget)) c.done_since-in_part.ensures.fits in
    let seen = seen_half logs plan n guest s os h es c.args.hart c.args.count in
    sym (asked.beyond c.if-not-part.true c.if-count-in_part-2.true) ∙ seen

pub returns-then-not-part : goal.returns-then-not-part
returns-then-not-part g c = λ es tied.
    let h = c.in_ok-half.ensures in
    let s = c.in_ok-half.half.shared in
    let os = c.in_ok-half.half.ends.items in
    let logs = keeps_log c.args.crew.now.form in
    let plan = c.args.plan.now in
    let n = c.args.done in
    let guest = c.args.guest in
    let before = get_or c.harts-harts-2.result.now c.args.hart no_hart in
    let asked = asked_half logs plan n guest s os h es c.args.hart c.args.count c.done_since-in_part.result before c.index-parts-hart.result c.requires.hart
    (ap (λ (hs : List Hart). get_or hs c.args.hart no_hart) c.harts-harts-2.ensures ∙ same_at guest.harts c.args.hart no_hart before c.requires.hart) (c.index-parts-hart.is ∙ ap (λ (xs : List HartEnd). get_or xs c.args.hart c.index-parts-hart.result) c.as_slice-parts.ensures.value) c.done_since-in_part.ensures.count
    (subst IsBytes (ap (λ (m : Memory). m.bytes) c.pages.ensures) c.bytes_fit.ensures) tied c.requires.harts (c.harts-harts.ensures.in_range n) (c.harts-harts.ensures.quotas n) (omega (arith, c.budget-budget.ensures.budget, c.budget-budget.ensures.few_budget)) c.done_since-in_part.ensures.fits in
    let seen = seen_half logs plan n guest s os h es c.args.hart c.args.count in
    ap there_is c.with_hart.ensures ∙ sym (asked.at_end c.if-not-part.true (omega (arith, c.if-count-in_part.false, c.if-count-in_part-2.false)) c.in_ok-there.there c.in_ok-there.ensures) ∙ seen

pub returns-then-count-in_part-3 : goal.returns-then-count-in_part-3
returns-then-count-in_part-3 g c = λ es tied.
    let h = c.in_ok-half.ensures in
    let s = c.in_ok-half.half.shared in
    let os = c.in_ok-half.half.ends.items in
    let logs = keeps_log c.args.crew.now.form in
    let plan = c.args.plan.now in
    let n = c.args.done in
    let guest = c.args.guest in
    let before = get_or c.harts-harts-2.result.now c.args.hart no_hart in
    let asked = asked_half logs plan n guest s os h es c.args.hart c.args.count c.done_since-in_part.result before c.index-parts-hart.result c.requires.hart
    (ap (λ (hs : List Hart). get_or hs c.args.hart no_hart) c.harts-harts-2.ensures ∙ same_at guest.harts c.args.hart no_hart before c.requires.hart) (c.index-parts-hart.is ∙ ap (λ (xs : List HartEnd). get_or xs c.args.hart c.index-parts-hart.result) c.as_slice-parts.ensures.value) c.done_since-in_part.ensures.count
    (subst IsBytes (ap (λ (m : Memory). m.bytes) c.pages.ensures) c.bytes_fit.ensures) tied c.requires.harts (c.harts-harts.ensures.in_range n) (c.harts-harts.ensures.quotas n) (omega (arith, c.budget-budget.ensures.budget, c.budget-budget.ensures.few_budget)) c.done_since-in_part.ensures.fits in
    let seen = seen_half logs plan n guest s os h es c.args.hart c.args.count in
    sym (asked.over (omega (arith, c.if-count-in_part-3.true, c.budget-budget.ensures.budget))) ∙ seen

pub ask_turn-requires-clause-rounds : goal.ask_turn-requires-clause-rounds
ask_turn-requires-clause-rounds g c κs within =
    let h = c.in_ok-half.ensures in
    let s = c.in_ok-half.half.shared in
    let logs = keeps_log c.args.crew.now.form in (
      logs,
      rounds_here logs c.args.plan.now c.args.done c.args.guest s c.in_ok-half.half.ends.items h,
      subst (λ (os : List HartEnd). AreEndsOf logs s.pages.memory (rounds_here logs c.args.plan.now c.args.done c.args.guest s c.in_ok-half.half.ends.items h) os) (sym c.as_slice-parts.ensures.value)
          (ends_here logs c.args.plan.now c.args.done c.args.guest s c.in_ok-half.half.ends.items h),
      touches_here logs c.args.plan.now c.args.done c.args.guest s c.in_ok-half.half.ends.items h,
    )

pub ask_turn-requires-clause-few : goal.ask_turn-requires-clause-few
ask_turn-requires-clause-few g c κs within =
    omega (arith, many_here (keeps_log c.args.crew.now.form) c.args.plan.now c.args.done c.args.guest c.in_ok-half.half.shared c.in_ok-half.half.ends.items c.in_ok-half.ensures, ap length c.as_slice-parts.ensures.value, c.requires.harts, c.harts-harts.ensures.harts, c.harts-harts.ensures.few_harts)

pub ask_turn-requires-clause-fits : goal.ask_turn-requires-clause-fits
ask_turn-requires-clause-fits g c κs within =
    subst (λ (os : List HartEnd). AreFit c.in_ok-half.half.shared.pages.memory os) (sym c.as_slice-parts.ensures.value)
    (fit_here (keeps_log c.args.crew.now.form) c.args.plan.now c.args.done c.args.guest c.in_ok-half.half.shared c.in_ok-half.half.ends.items c.in_ok-half.ensures)

pub ask_turn-requires-clause-size : goal.ask_turn-requires-clause-size
ask_turn-requires-clause-size g c κs within =
    c.in_ok-half.ensures.size ∙ sym (many_here (keeps_log c.args.crew.now.form) c.args.plan.now c.args.done c.args.guest c.in_ok-half.half.shared c.in_ok-half.half.ends.items c.in_ok-half.ensures) ∙ sym (ap length c.as_slice-parts.ensures.value)

pub ask_turn-requires-clause-hart : goal.ask_turn-requires-clause-hart
ask_turn-requires-clause-hart g c κs within =
    omega (arith, many_here (keeps_log c.args.crew.now.form) c.args.plan.now c.args.done c.args.guest c.in_ok-half.half.shared c.in_ok-half.half.ends.items c.in_ok-half.ensures, ap length c.as_slice-parts.ensures.value, c.requires.hart)

pub returns : goal.returns
returns g c =
    IfOk-weaker c.ask_turn.result _ _ (λ x f es tied.
    let h = c.in_ok-half.ensures in
    let s = c.in_ok-half.half.shared in
    let os = c.in_ok-half.half.ends.items in
    let logs = keeps_log c.args.crew.now.form in
    let plan = c.args.plan.now in
    let n = c.args.done in
    let guest = c.args.guest in
    let before = get_or c.harts-harts-2.result.now c.args.hart no_hart in
    let asked = asked_half logs plan n guest s os h es c.args.hart c.args.count c.done_since-in_part.result before c.index-parts-hart.result c.requires.hart
    (ap (λ (hs : List Hart). get_or hs c.args.hart no_hart) c.harts-harts-2.ensures ∙ same_at guest.harts c.args.hart no_hart before c.requires.hart) (c.index-parts-hart.is ∙ ap (λ (xs : List HartEnd). get_or xs c.args.hart c.index-parts-hart.result) c.as_slice-parts.ensures.value) c.done_since-in_part.ensures.count
    (subst IsBytes (ap (λ (m : Memory). m.bytes) c.pages.ensures) c.bytes_fit.ensures) tied c.requires.harts (c.harts-harts.ensures.in_range n) (c.harts-harts.ensures.quotas n) (omega (arith, c.budget-budget.ensures.budget, c.budget-budget.ensures.few_budget)) c.done_since-in_part.ensures.fits in
    let seen = seen_half logs plan n guest s os h es c.args.hart c.args.count in
    let rs = rounds_here logs plan n guest s os h in
    f logs rs (subst (λ (xs : List HartEnd). AreEndsOf logs s.pages.memory rs xs) (sym c.as_slice-parts.ensures.value) (ends_here logs plan n guest s os h))
    ∙ ap (λ (b : ℕ). found_in (shared_of s) (record { hart = c.args.hart; round = n + 1; budget = b; count = c.args.count - c.done_since-in_part.result }) c.index-parts-hart.result.hart rs) c.budget-budget.ensures.budget
    ∙ sym (asked.in_turn c.if-not-part.false (omega (arith, c.if-count-in_part.false)) (omega (arith, c.if-count-in_part-3.false, c.budget-budget.ensures.budget))) ∙ seen) c.ask_turn.ensures
