use Rattle.std.proofs.Common.{refl, subst}
use Rattle.recording.specs.Grammar.{recording}
use Rattle.recording.specs.Recorded.{Recorded}
use Rattle.run_commands.proofs.making.record_command.Goals as goal

pub returns-clause-records : goal.returns-clause-records
returns-clause-records g c =
    let f = c.in_ok-given.given in
    let done = c.in_ok-recorded.ensures.records in (
      record { image = f.program.image.items; input = f.program.input.items; text = f.plan.text.items; budget = f.plan.budget; given = c.in_ok-given.ensures.given; made = done.0 },
      done.1,
      done.2,
      subst (λ (r : Recorded). g.W.World.was_given c.args.world.now c.save.new.world c.args.asked.now.out.now (recording.spelled r)) done.3 c.in_ok-save.ensures.given,
      refl,
    )
