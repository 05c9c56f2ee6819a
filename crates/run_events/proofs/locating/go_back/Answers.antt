use Rattle.run_events.proofs.Located.{at_same}
use Rattle.run_events.proofs.locating.go_back.Goals as goal

pub returns-clause-way : goal.returns-clause-way
returns-clause-way c = λ m i there. at_same m c.args.start.now c.in_ok-machine.field-0 c.in_ok-machine.ensures.same i
