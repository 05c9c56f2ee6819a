use Rattle.machine.specs.Machine.{after_rounds}
use Rattle.replayer.proofs.past.hart_in_round.Goals as goal

pub hart_after-requires-clause-run : goal.hart_after-requires-clause-run
hart_after-requires-clause-run g c = λ lifetimes within. (after_rounds c.args.before c.requires.run.0, c.in-Ok.ensures.ok c.requires.run.0 c.requires.run.1)

pub returns-in-Ok-clause-hart : goal.returns-in-Ok-clause-hart
returns-in-Ok-clause-hart g c = λ m i. c.hart_after.ensures.hart (after_rounds c.args.before m) (c.in-Ok.ensures.ok m i)
