use Rattle.std.proofs.Common.{Some}
use Rattle.gdb_runs.specs.Sessions.{state_of}
use Rattle.gdb_runs.specs.Wanted.{all_told}
use Rattle.gdb_steps.proofs.finding.find_told.Goals as goal

pub returns-clause-finds : goal.returns-clause-finds
returns-clause-finds g c = λ m is. c.find.ensures.finds m is (all_told (state_of c.args.session.now) (Some c.args.hart)) c.in_ok-telling.ensures
