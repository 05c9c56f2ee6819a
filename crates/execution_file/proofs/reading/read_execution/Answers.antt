use Rattle.execution_file.specs.Views.{as_recorded}
use Rattle.execution_file.proofs.Whole.{is_found, is_only}
use Rattle.execution_file.proofs.reading.read_execution.Goals as goal

pub returns-clause-found : goal.returns-clause-found
returns-clause-found c = is_found as_recorded c.args.text.now c.read_whole.result c.read_whole.ensures

pub returns-clause-only : goal.returns-clause-only
returns-clause-only c = λ r is. is_only as_recorded c.args.text.now c.read_whole.result r c.read_whole.ensures is
