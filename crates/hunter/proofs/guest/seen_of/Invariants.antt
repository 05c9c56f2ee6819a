use Rattle.std.proofs.Common.{◌≡◌, ◌++◌, drop}
use Rattle.hunter.specs.Hunts.{seen_of}
use Rattle.hunter.proofs.guest.seen_of.Given as goal

-- what is left makes up the bytes
abbrev pub invariant-loop-range : goal.invariant-loop-range
invariant-loop-range l = l.seen.items ++ seen_of (drop l.range-index l.ranges) l.machine.bytes ≡ seen_of l.ranges l.machine.bytes
