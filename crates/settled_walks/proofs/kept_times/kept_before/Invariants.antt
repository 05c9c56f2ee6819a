use Rattle.std.proofs.Common.{◌≡◌, ◌≤◌}
use Rattle.list_suffixes.specs.Staying.{kept_before}
use Rattle.settled_walks.proofs.kept_times.kept_before.Given as goal

abbrev pub invariant-loop-store : goal.invariant-loop-store
invariant-loop-store l = record {
  few : l.kept ≤ l.store;
  counted : l.kept ≡ kept_before l.stays l.store;
}
