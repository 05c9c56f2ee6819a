use Rattle.pages.proofs.StoreLaws.{byte_after}
use Rattle.pages.proofs.laws.last_store_wins.Goals as goal

pub returns : goal.returns
returns c = byte_after
