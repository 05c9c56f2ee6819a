use Rattle.std.proofs.Common.{length}
use Rattle.picture.proofs.titles.+escaped.Given as goal

abbrev pub decreases-escaped : goal.decreases-escaped
decreases-escaped l = length l.name.now
