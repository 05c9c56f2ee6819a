use Rattle.list_suffixes.proofs.Serving.{longer_served}
use Rattle.list_suffixes.proofs.laws.longer_lists_are_served.Goals as goal

pub returns : goal.returns
returns c = longer_served
