use Rattle.std.proofs.Common.{◌≡◌, ℕ, ◌+◌, ◌<◌, ◌≤◌, length, get_or}
use Rattle.hart_states.specs.States.{listed}
use Rattle.list_suffixes.specs.Staying.{place_kept}
use Rattle.settled_walks.proofs.kept_times.sources_from.Given as goal

abbrev pub invariant-loop-index : goal.invariant-loop-index
invariant-loop-index l = record {
  size : length l.kept ≡ 8;
  counted : (k : ℕ) → k < l.index → place_kept l.stays (listed l.list) (l.address + k) (get_or l.sources k 0) ≤ get_or l.kept k 0;
}
