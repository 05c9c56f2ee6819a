use Rattle.std.proofs.Common.{◌≡◌, ◌++◌, drop, take}
use Rattle.hunter.proofs.guest.look.Given as goal

-- the bytes so far
abbrev pub invariant-loop-offset : goal.invariant-loop-offset
invariant-loop-offset l = l.seen.items ≡ l.fn.seen.items ++ take l.offset (drop l.range.address l.machine.bytes)
