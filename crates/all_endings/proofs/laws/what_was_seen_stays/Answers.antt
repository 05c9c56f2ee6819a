use Rattle.all_endings.proofs.Seen.{seen_stays}
use Rattle.all_endings.proofs.laws.what_was_seen_stays.Goals as goal

pub returns : goal.returns
returns c = seen_stays
