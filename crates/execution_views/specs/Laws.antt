-- What is seen at a moment, against the memory model.
use Rattle.std.specs.Prelude.{◌≡◌, ℕ, true, List}
use Rattle.round_schedule.specs.declared.event.Event.{Event}
use Rattle.round_schedule.specs.Accesses.{byte_read}
use Rattle.round_schedule.specs.Positions.{event, reads_at}
use Rattle.memory_order.specs.Orders.{ListsOperations, order_position}
use Rattle.memory_order.specs.Rvwmo.{LoadValueAxiom}
use Rattle.execution_views.specs.Moments.{byte_at, moment_of}

-- in an order that meets the load value axiom, a load reads what its hart sees at the load's moment
abbrev pub LoadsReadWhatIsSeen : Type 0
LoadsReadWhatIsSeen =
    (t : List Event) (opening : ℕ → ℕ) (g : List ℕ) → ListsOperations t g → LoadValueAxiom t opening (order_position g) →
    (r x : ℕ) → reads_at t r x ≡ true → byte_at t opening g (moment_of t g r) x ≡ byte_read (event t r).access x
