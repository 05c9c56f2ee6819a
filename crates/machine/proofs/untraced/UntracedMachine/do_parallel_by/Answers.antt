use Rattle.std.proofs.Common.{subst}
use Rattle.std.proofs.lemmas.Result.{IfOk-weaker}
use Rattle.hart_rounds.specs.Starts.{keeps_log}
use Rattle.machine.specs.RoundStarts.{AreOfNext}
use Rattle.machine.specs.Untraced.{Untraced}
use Rattle.machine.proofs.untraced.UntracedMachine.do_parallel_by.Goals as goal

pub returns-then-shares-clause-ends : goal.returns-then-shares-clause-ends
returns-then-shares-clause-ends g c =
    IfOk-weaker c.do_parallel.result _ _ (λ os a. subst (λ (u : Untraced). AreOfNext (keeps_log c.args.crew.now.crew.form) u os.items) c.self.view_is a) c.do_parallel.ensures.ends
