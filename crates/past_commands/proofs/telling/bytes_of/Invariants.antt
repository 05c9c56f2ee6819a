use Rattle.std.proofs.Common.{◌≡◌, ◌++◌, drop}
use Rattle.past_commands.specs.Answers.{all_bytes}
use Rattle.moments.specs.Bytes.{bytes_from}
use Rattle.past_commands.proofs.telling.bytes_of.Given as goal

-- with those of the ranges that are left
abbrev pub invariant-loop-range : goal.invariant-loop-range
invariant-loop-range l = l.all.items ++ all_bytes (bytes_from l.sight.bytes) (drop l.range-index l.ranges) ≡ all_bytes (bytes_from l.sight.bytes) l.ranges
