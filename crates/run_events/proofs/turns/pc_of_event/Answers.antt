use Rattle.std.proofs.Common.{sym}
use Rattle.run_events.proofs.InParts.{some_found}
use Rattle.run_events.proofs.turns.pc_of_event.Goals as goal

pub returns-then-is_some-clause-pc : goal.returns-then-is_some-clause-pc
returns-then-is_some-clause-pc g c = λ m is. some_found m c.args.machine.now is c.args.event.now c.args.found c.requires.found (sym c.if-is_some.ensures)
