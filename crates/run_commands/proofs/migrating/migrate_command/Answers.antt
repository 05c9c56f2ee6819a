use Rattle.std.proofs.Common.{refl, subst}
use Rattle.recording.specs.Grammar.{recording}
use Rattle.recording.specs.Recorded.{Recorded}
use Rattle.run_commands.proofs.migrating.migrate_command.Goals as goal

pub returns-clause-migrates : goal.returns-clause-migrates
returns-clause-migrates g c = (
  c.in_ok-recorded.recorded,
  c.in_ok-recorded.ensures.holds,
  subst (λ (r : Recorded). g.W.World.was_given c.args.world.now c.save.new.world c.args.asked.now.out.now (recording.spelled r)) c.migrate.ensures c.in_ok-save.ensures.given,
  refl,
)
