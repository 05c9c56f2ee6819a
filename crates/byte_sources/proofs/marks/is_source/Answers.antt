use Rattle.std.proofs.Common.{arith}
use Rattle.byte_sources.proofs.Overwritten.{source_is_below}
use Rattle.byte_sources.proofs.marks.is_source.Goals as goal

pub returns-then-later-index : goal.returns-then-later-index
returns-then-later-index c = source_is_below c.args.trace.now.events c.args.index c.args.byte c.args.later (omega arith)
