use Rattle.std.proofs.Common.{◌≡◌, ◌++◌, drop, map}
use Rattle.view_commands.specs.Views.{range_of}
use Rattle.view_commands.proofs.ranges.access_ranges.Given as goal

-- with those that are left
abbrev pub invariant-loop-bytes : goal.invariant-loop-bytes
invariant-loop-bytes l = l.ranges.items ++ map range_of (drop l.bytes-index l.named) ≡ map range_of l.named
