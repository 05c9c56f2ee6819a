use Rattle.std.proofs.Common.{◌≡◌, ◌++◌, drop}
use Rattle.past_commands.specs.Answers.{all_bytes}
use Rattle.past_commands.specs.Executions.{look_at}
use Rattle.past_commands.proofs.looking.bytes_of.Given as goal

-- with those of the ranges that are left
abbrev pub invariant-loop-range : goal.invariant-loop-range
invariant-loop-range l = l.all.items ++ all_bytes (look_at l.checked l.moment) (drop l.range-index l.ranges) ≡ all_bytes (look_at l.checked l.moment) l.ranges
