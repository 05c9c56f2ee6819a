use Rattle.std.proofs.Common.{◌≡◌, ◌++◌, drop, map}
use Rattle.program_files.specs.Naming.{by_address}
use Rattle.program_files.proofs.ranges.add_by_address.Given as goal

-- with those that are left
abbrev pub invariant-loop-range : goal.invariant-loop-range
invariant-loop-range l = l.ranges.items ++ map by_address (drop l.range-index l.bytes) ≡ l.fn.ranges.items ++ map by_address l.bytes
