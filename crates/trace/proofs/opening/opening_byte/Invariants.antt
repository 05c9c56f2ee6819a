use Rattle.std.proofs.Common.{◌≡◌, drop, map}
use Rattle.trace.specs.Traced.{laid, opening_at}
use Rattle.trace.proofs.opening.opening_byte.Given as goal

abbrev pub invariant-loop-piece : goal.invariant-loop-piece
invariant-loop-piece l = opening_at (map laid l.pieces) l.address ≡ opening_at (map laid (drop l.piece-index l.pieces)) l.address
