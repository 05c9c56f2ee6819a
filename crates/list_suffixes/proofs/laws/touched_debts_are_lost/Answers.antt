use Rattle.list_suffixes.proofs.LateDebts.{touched_lost}
use Rattle.list_suffixes.proofs.laws.touched_debts_are_lost.Goals as goal

pub returns : goal.returns
returns c = touched_lost
