use Rattle.std.proofs.Common.{[]}
use Rattle.machine.proofs.UntracedRounds.{nothing_to_keep}
use Rattle.machine.proofs.Answered.{answers_weaker}
use Rattle.machine.proofs.untraced.UntracedMachine.run_observed.Goals as goal

pub run_keeping-requires-clause-kept : goal.run_keeping-requires-clause-kept
run_keeping-requires-clause-kept g c = λ lifetimes within. ([], tt)

pub run_keeping-requires-clause-sound : goal.run_keeping-requires-clause-sound
run_keeping-requires-clause-sound g c = λ lifetimes within n es few kept. nothing_to_keep n es c.args.self.now

pub returns : goal.returns
returns g c = answers_weaker (λ k x. x.run) (λ x. x.0) c.run_keeping.ensures.answers
