use Rattle.std.proofs.Common.{◌≡◌, ◌++◌, length, map}
use Rattle.command_line.specs.Reading.{bytes_of, pairs}
use Rattle.command_line.proofs.given.bytes_in.Given as goal

-- the texts before these were read
abbrev pub invariant-loop-rest : goal.invariant-loop-rest
invariant-loop-rest l = l.seen.items ++ map bytes_of (pairs (map (λ s. s.now) l.rest)) ≡ map bytes_of (pairs (map (λ s. s.now) l.texts))

abbrev pub decreases-loop-rest : goal.decreases-loop-rest
decreases-loop-rest l = length l.rest
