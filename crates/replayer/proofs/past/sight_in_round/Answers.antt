use Rattle.machine.specs.Machine.{after_rounds}
use Rattle.replayer.proofs.past.sight_in_round.Goals as goal

pub sight_after-requires-clause-run : goal.sight_after-requires-clause-run
sight_after-requires-clause-run g c = λ lifetimes within. (after_rounds c.args.before c.requires.run.0, c.in-Ok.ensures.ok c.requires.run.0 c.requires.run.1)

pub returns-in-Ok-clause-sight : goal.returns-in-Ok-clause-sight
returns-in-Ok-clause-sight g c = λ m i. c.sight_after.ensures.sight (after_rounds c.args.before m) (c.in-Ok.ensures.ok m i)
