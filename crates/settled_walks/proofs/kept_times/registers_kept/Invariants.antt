use Rattle.std.proofs.Common.{◌≡◌, ℕ, ◌<◌, length, get_or}
use Rattle.list_suffixes.specs.Staying.{kept_before}
use Rattle.settled_walks.proofs.kept_times.registers_kept.Given as goal

abbrev pub invariant-loop-register : goal.invariant-loop-register
invariant-loop-register l = record {
  size : length l.kept ≡ 32;
  counted : (r : ℕ) → r < l.register → get_or l.kept r 0 ≡ kept_before l.stays (get_or l.registers r 0);
}
