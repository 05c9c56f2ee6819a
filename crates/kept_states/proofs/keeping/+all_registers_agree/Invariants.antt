use Rattle.std.proofs.Common.{length}
use Rattle.kept_states.proofs.keeping.+all_registers_agree.Given as goal

abbrev pub decreases-all_registers_agree : goal.decreases-all_registers_agree
decreases-all_registers_agree l = length l.recorded.now
