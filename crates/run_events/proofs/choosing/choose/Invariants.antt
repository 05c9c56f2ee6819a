use Rattle.std.proofs.Common.{◌≡◌, ◌++◌, filter}
use Rattle.std.specs.Vec.Iter.{into_iter_items}
use Rattle.run_events.specs.Hits.{is_chosen}
use Rattle.run_events.proofs.choosing.choose.Given as goal

abbrev pub invariant-loop-event : goal.invariant-loop-event
invariant-loop-event l =
    l.chosen.items ++ filter (is_chosen l.hart l.only_stores) (into_iter_items l.event-iterator) ≡ filter (is_chosen l.hart l.only_stores) l.fn.events.items
