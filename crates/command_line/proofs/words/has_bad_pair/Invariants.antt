use Rattle.std.proofs.Common.{◌≡◌, length, map}
use Rattle.std.specs.List.{list_any}
use Rattle.command_line.specs.Faults.{is_bad_pair}
use Rattle.command_line.specs.Reading.{pairs}
use Rattle.command_line.proofs.words.has_bad_pair.Given as goal

-- no text before these is bad
abbrev pub invariant-loop-rest : goal.invariant-loop-rest
invariant-loop-rest l = list_any is_bad_pair (pairs (map (λ s. s.now) l.texts)) ≡ list_any is_bad_pair (pairs (map (λ s. s.now) l.rest))

abbrev pub decreases-loop-rest : goal.decreases-loop-rest
decreases-loop-rest l = length l.rest
