use Rattle.std.proofs.Common.{◌≡◌, length, map}
use Rattle.std.specs.List.{list_any}
use Rattle.clap.specs.Words.{found_of, rows_of}
use Rattle.command_line.specs.Faults.{contradictions, contradicts}
use Rattle.command_line.proofs.contradictions.contradiction.Given as goal

-- the line has none of those before these
abbrev pub invariant-loop-rest : goal.invariant-loop-rest
invariant-loop-rest l = list_any (contradicts (rows_of (found_of l.matches))) contradictions ≡ list_any (contradicts (rows_of (found_of l.matches))) (map (λ r. (r.0.now, r.1, r.2.now, r.3.now)) l.rest)

abbrev pub decreases-loop-rest : goal.decreases-loop-rest
decreases-loop-rest l = length l.rest
