use Rattle.execution_moments.proofs.Showing.{program_order}
use Rattle.execution_moments.proofs.laws.harts_respect_program_order.Goals as goal

pub returns : goal.returns
returns c = program_order
