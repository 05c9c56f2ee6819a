use Rattle.all_endings.proofs.Closing.{closed_have_all}
use Rattle.all_endings.proofs.laws.closed_lists_have_all.Goals as goal

pub returns : goal.returns
returns c = closed_have_all
