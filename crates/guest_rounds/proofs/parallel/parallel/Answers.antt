use Rattle.std.proofs.lemmas.Result.{IfOk-weaker}
use Rattle.std.proofs.Common.{◌-◌, ◌∙◌, List, ap, subst, arith}
use Rattle.round_schedule.specs.Schedule.{HartRound, hart_rounds}
use Rattle.round_planner.specs.Quotas.{quotas_of}
use Rattle.hart_step.specs.declared.hart.Hart.{Hart}
use Rattle.hart_step.specs.Words.{words_of}
use Rattle.hart_rounds.specs.Starts.{Start, keeps_log, rounds_of}
use Rattle.guest_rounds.specs.HartEnds.{AreEndsOf}
use Rattle.guest_rounds.proofs.RoundsOfHarts.{same_rounds}
use Rattle.guest_rounds.proofs.parallel.parallel.Goals as goal

pub returns-clause-ends : goal.returns-clause-ends
returns-clause-ends g c =
    let m = c.args.shared.now.pages.memory in
    let plan = c.args.plan.now in
    let rs = hart_rounds (words_of m.code) m.bytes (quotas_of plan (c.args.round - 1)) c.args.harts.now in
    IfOk-weaker c.parallel_from.result _ _ (λ os done.
    subst (λ (them : List (HartRound Hart)). AreEndsOf (keeps_log c.args.crew.now.form) m them os.items)
    (same_rounds (words_of m.code) m.bytes c.set_quotas.new.quotas (quotas_of plan (c.args.round - 1)) c.args.harts.now (λ k low.
    c.set_quotas.ensures k (omega (arith, low, c.requires.harts))))
    (subst (λ (s : Start). AreEndsOf s.logs s.memory (rounds_of s) os.items) (c.with_form-start.ensures ∙ ap (λ (s : Start). record s { logs = keeps_log c.args.crew.now.form }) c.new.ensures) done)) c.parallel_from.ensures.ends
