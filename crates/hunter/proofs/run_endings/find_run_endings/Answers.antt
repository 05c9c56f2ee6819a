use Rattle.std.proofs.Common.{List, map, ap, ◌∙◌}
use Rattle.hart_step.specs.declared.hart.Hart.{Hart}
use Rattle.machine.specs.Machine.{Running, opening}
use Rattle.round_planner.specs.Settings.{image_for}
use Rattle.hunter.specs.Hunts.{ending_by}
use Rattle.hunter.proofs.Runs.{told_so}
use Rattle.hunter.proofs.run_endings.find_run_endings.Goals as goal

pub run_or_loop-requires-clause-run : goal.run_or_loop-requires-clause-run
run_or_loop-requires-clause-run g c = λ κs within.
    let made = c.in_ok-machine.ensures.machine in
    (opening (image_for c.args.settings.now c.args.files.now.image.now) c.args.files.now.input.now made.0, made.2)

pub returns-clause-endings : goal.returns-clause-endings
returns-clause-endings g c =
    let made = c.in_ok-machine.ensures.machine in
    let m : Running = opening (image_for c.args.settings.now c.args.files.now.image.now) c.args.files.now.input.now made.0 in (
      made.0,
      made.1,
      told_so c.args.settings.now.rounds m c.run_or_loop.new.machine c.in_ok-loops.loops c.in_ok-endings.endings.items (c.in_ok-loops.ensures.loops m made.2) (c.in_ok-loops.ensures.ending m made.2)
          (c.in_ok-endings.ensures ∙ ap (λ (hs : List Hart). map (λ (h : Hart). ending_by c.in_ok-loops.loops h.stop) hs) c.harts.ensures.harts),
    )
