use Rattle.std.proofs.Common.{◌≡◌, ◌+◌, ◌≤◌, drop}
use Rattle.picture.specs.Rows.{times}
use Rattle.picture.proofs.rows.times.Given as goal

-- those so far, and the ones that follow the last of them, are all
abbrev pub invariant-loop-next : goal.invariant-loop-next
invariant-loop-next l = record {
  sum : l.count + times l.trace.events l.last (drop l.next-index l.rest) ≡ times l.trace.events l.index l.rest + 1;
  few : l.count ≤ l.next-index + 1;
}
