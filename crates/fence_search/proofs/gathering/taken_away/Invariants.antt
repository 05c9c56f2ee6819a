use Rattle.std.proofs.Common.{◌≡◌, ◌+◌, length}
use Rattle.std.specs.Vec.Iter.{into_iter_items, into_iter_len}
use Rattle.fence_search.proofs.gathering.taken_away.Given as goal

-- each one so far is in one of the two lists
abbrev pub invariant-loop-found : goal.invariant-loop-found
invariant-loop-found l = record {
  all : length l.hit.items + length l.founds.items + length (into_iter_items l.found-iterator) ≡ length l.fn.founds.items;
  left : into_iter_len l.found-iterator ≡ length (into_iter_items l.found-iterator);
}
