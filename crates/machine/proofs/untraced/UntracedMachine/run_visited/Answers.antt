use Rattle.std.proofs.Common.{[]}
use Rattle.std.proofs.lemmas.Result.{IfOk-weaker, on_err_weaker}
use Rattle.machine.proofs.UntracedRounds.{nothing_to_keep}
use Rattle.machine.proofs.Walked.{has_done}
use Rattle.machine.proofs.untraced.UntracedMachine.run_visited.Goals as goal

pub run_within-requires-clause-sound : goal.run_within-requires-clause-sound
run_within-requires-clause-sound g c = λ lifetimes within. ([], tt, nothing_to_keep c.args.rounds [] c.args.self.now)

pub returns-clause-done : goal.returns-clause-done
returns-clause-done g c =
    IfOk-weaker c.run_within.result _ _ (λ done x. has_done c.args.rounds c.args.self.now c.run_within.new.self (λ _. Unit {0}) (λ _. Unit {0}) x) c.run_within.ensures.done

pub returns-clause-cut_off : goal.returns-clause-cut_off
returns-clause-cut_off g c =
    on_err_weaker c.run_within.result
    (λ x. (x.0, x.1, has_done x.0 c.args.self.now c.run_within.new.self (λ _. Unit {0}) (λ _. Unit {0}) x.2)) c.run_within.ensures.cut_off
