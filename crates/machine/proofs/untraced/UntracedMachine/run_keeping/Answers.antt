use Rattle.std.proofs.Common.{◌-◌, rules}
use Rattle.machine.proofs.UntracedRounds.{none_run}
use Rattle.machine.proofs.untraced.UntracedMachine.run_keeping.Goals as goal

pub returns-then-workers-lt1-clause-some : goal.returns-then-workers-lt1-clause-some
returns-then-workers-lt1-clause-some g c = (0, none_run c.args.self.now (g.E.EventKeeper.keeps c.args.keeper.now))

pub run_within-requires-clause-sound : goal.run_within-requires-clause-sound
run_within-requires-clause-sound g c = λ lifetimes within. (c.requires.kept.0, c.requires.kept.1, c.requires.sound (4294967295 - c.self.inside.rounds) c.requires.kept.0 (search rules) c.requires.kept.1)

pub run_within-requires-2-clause-sound : goal.run_within-requires-2-clause-sound
run_within-requires-2-clause-sound g c = λ lifetimes within. (c.requires.kept.0, c.requires.kept.1, c.requires.sound c.args.rounds c.requires.kept.0 (search rules) c.requires.kept.1)
