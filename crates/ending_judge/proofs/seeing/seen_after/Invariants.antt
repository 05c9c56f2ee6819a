use Rattle.std.proofs.Common.{◌≡◌, ℕ, map, take}
use Rattle.std.specs.Global.{Vec}
use Rattle.hunt_table.specs.declared.seen_range.SeenRange.{SeenRange}
use Rattle.trace.specs.Traced.{opening_at}
use Rattle.all_endings.specs.Endings.{bytes_from, memory_after}
use Rattle.ending_judge.proofs.seeing.seen_after.Given as goal

abbrev pub invariant-loop-range : goal.invariant-loop-range
invariant-loop-range l =
    map (λ (bs : Vec ℕ). bs.items) l.seen.items
    ≡ map (λ (r : SeenRange). bytes_from (memory_after l.events l.order.0.items (opening_at l.opening.opening)) r.address r.length) (take l.range-index l.ranges)
