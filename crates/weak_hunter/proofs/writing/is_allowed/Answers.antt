use Rattle.execution_file.specs.Views.{as_recorded}
use Rattle.weak_hunter.proofs.AllowedFiles.{allowed_so}
use Rattle.weak_hunter.proofs.writing.is_allowed.Goals as goal

pub returns-in-Ok : goal.returns-in-Ok
returns-in-Ok c = allowed_so (as_recorded c.args.file.now) c.in-Ok.checked.finding c.in-Ok.checked c.is_found_allowed.result c.is_found_allowed.ensures c.in-Ok.ensures
