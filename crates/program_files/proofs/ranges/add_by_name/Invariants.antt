use Rattle.std.proofs.Common.{◌≡◌, ◌++◌, drop, map}
use Rattle.program_files.specs.Naming.{by_name}
use Rattle.program_files.proofs.ranges.add_by_name.Given as goal

-- with those that are left
abbrev pub invariant-loop-index : goal.invariant-loop-index
invariant-loop-index l =
    l.ranges.items ++ by_name (drop l.index l.bytes) (map (λ s. s.now) (drop l.index l.names)) ≡ l.fn.ranges.items ++ by_name l.bytes (map (λ s. s.now) l.names)
