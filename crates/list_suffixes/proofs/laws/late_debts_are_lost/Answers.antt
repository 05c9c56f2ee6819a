use Rattle.list_suffixes.proofs.LateDebts.{debts_lost}
use Rattle.list_suffixes.proofs.laws.late_debts_are_lost.Goals as goal

pub returns : goal.returns
returns c = debts_lost
