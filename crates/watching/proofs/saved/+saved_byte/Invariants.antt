use Rattle.std.proofs.Common.{length}
use Rattle.watching.proofs.saved.+saved_byte.Given as goal

abbrev pub decreases-saved_byte : goal.decreases-saved_byte
decreases-saved_byte l = length l.saved.now
