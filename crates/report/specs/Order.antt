-- The text of an order of a trace's memory operations.
use Rattle.std.specs.Prelude.{◌↔◌, ℕ, Bool, true, false, IsTrue, List, ◌++◌, length, map, codes}
use Rattle.std.specs.Fmt.{decimal}
use Rattle.round_schedule.specs.declared.event.Event.{Event}
use Rattle.round_schedule.specs.Positions.{event}
use Rattle.memory_order.specs.RoundOrder.{IsRoundOrder}
use Rattle.memory_order.specs.Rvwmo.{MeetsRvwmo}
use Rattle.trace.specs.Traced.{Traced, opening_at}
use Rattle.report.specs.Report.{events_text}

-- the lines of the events at these indexes of a trace, in the order of the indexes
abbrev pub indexed_text : List Event → List ℕ → List ℕ
indexed_text t g = events_text (map (event t) g)

-- whether the order was found to meet the memory model
abbrev pub checked_text : Bool → List ℕ
checked_text true = codes "checked yes\n"
checked_text false = codes "checked no\n"

-- `order` with the number of operations, the lines of these in their order, and what was found
unfoldable pub order_text : List Event → List ℕ → Bool → List ℕ
order_text t g answer = codes "order " ++ decimal (length g) ++ codes "\n" ++ indexed_text t g ++ checked_text answer

-- the order by rounds of a trace, and whether it meets RVWMO
pub record IsCheckedOrder (t : Traced) (g : List ℕ) (answer : Bool) : Type 0 where
  pub by_rounds : IsRoundOrder t.events g
  pub checked : IsTrue answer ↔ MeetsRvwmo t.events (opening_at t.opening) g
