use Rattle.machine.specs.Machine.{opening}
use Rattle.hunter.proofs.Runs.{ends_so}
use Rattle.hunter.proofs.guest.GuestPlanRuns.run_under.Goals as goal

pub run_or_loop-requires-clause-run : goal.run_or_loop-requires-clause-run
run_or_loop-requires-clause-run g c = λ κs within. (opening c.args.self.now.image c.args.self.now.input.now c.args.plan, c.in_ok-machine.ensures)

pub returns : goal.returns
returns g c =
    let image = c.args.self.now.image in
    let input = c.args.self.now.input.now in
    let first = opening image input c.args.plan in
    ends_so c.args.self.now.settings.now image input c.args.plan c.in_ok-machine.machine c.run_or_loop.new.machine c.deref.result.now c.in_ok-loops.loops c.ending_of.result
    c.in_ok-machine.ensures (c.in_ok-loops.ensures.loops first c.in_ok-machine.ensures) (c.in_ok-loops.ensures.ending first c.in_ok-machine.ensures) c.deref.ensures.value c.ending_of.ensures
