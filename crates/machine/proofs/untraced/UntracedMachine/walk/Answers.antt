use Rattle.std.proofs.Common.{[]}
use Rattle.std.proofs.lemmas.Result.{IfOk-weaker, on_err_weaker}
use Rattle.machine.proofs.UntracedRounds.{nothing_to_keep}
use Rattle.machine.proofs.Walked.{has_done}
use Rattle.machine.proofs.untraced.UntracedMachine.walk.Goals as goal

pub walk_keeping-requires-clause-sound : goal.walk_keeping-requires-clause-sound
walk_keeping-requires-clause-sound g c = λ lifetimes within. ([], tt, nothing_to_keep c.args.rounds [] c.args.self.now)

pub returns-clause-done : goal.returns-clause-done
returns-clause-done g c = IfOk-weaker c.walk_keeping.result _ _ (λ k x. has_done k c.args.self.now c.walk_keeping.new.self (λ _. Unit {0}) (λ _. Unit {0}) x) c.walk_keeping.ensures.done

pub returns-clause-cut_off : goal.returns-clause-cut_off
returns-clause-cut_off g c =
    on_err_weaker c.walk_keeping.result
    (λ x. (x.0, x.1, has_done x.0 c.args.self.now c.walk_keeping.new.self (λ _. Unit {0}) (λ _. Unit {0}) x.2)) c.walk_keeping.ensures.cut_off
