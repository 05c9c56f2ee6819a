use Rattle.std.proofs.Common.{◌≡◌}
use Rattle.moments.specs.Bytes.{bytes_from}
use Rattle.moments.proofs.sight.Sight.bytes.Given as goal

abbrev pub invariant-loop-offset : goal.invariant-loop-offset
invariant-loop-offset l = l.bytes.items ≡ bytes_from l.self.bytes l.address l.offset
