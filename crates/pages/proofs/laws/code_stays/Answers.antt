use Rattle.pages.proofs.StoreLaws.{fetched_stays}
use Rattle.pages.proofs.laws.code_stays.Goals as goal

pub returns : goal.returns
returns c = fetched_stays
