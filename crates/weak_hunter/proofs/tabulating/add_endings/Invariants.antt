use Rattle.std.proofs.Common.{◌≡◌, ◌+◌, false}
use Rattle.weak_hunter.specs.WeakHunts.{IsSomeTally}
use Rattle.weak_hunter.proofs.tabulating.add_endings.Given as goal

-- the table of the endings so far
abbrev pub invariant-loop-index : goal.invariant-loop-index
invariant-loop-index g l = record {
  done : l.tally.done ≡ l.initial.tally.done + l.index;
  going : l.tally.is_over ≡ false;
  tally : IsSomeTally l.extent l.tally.is_over l.tally.done l.tally.rows.items;
}
