-- Sources of bytes against the memory model.
use Rattle.std.specs.Prelude.{◌≡◌, ◌<◌, ◌↔◌, ℕ, true, List, Option, Some, None}
use Rattle.std.specs.List.{list_any}
use Rattle.round_schedule.specs.declared.event.Event.{Event}
use Rattle.round_schedule.specs.Positions.{reads_at}
use Rattle.round_schedule.specs.RoundTrace.{IsRoundTrace}
use Rattle.memory_order.specs.Orders.{order_position}
use Rattle.memory_order.specs.RoundOrder.{IsRoundOrder}
use Rattle.memory_order.specs.Rvwmo.{IsSource}
use Rattle.byte_sources.specs.Repeats.{repeats}
use Rattle.byte_sources.specs.Sources.{is_opening, is_index, source, sources}

-- of a trace of rounds, the source of each byte that is read is that of the load value axiom in the order by rounds
abbrev pub SourcesMeetAxiom : Type 0
SourcesMeetAxiom =
    (t : List Event) (opening : ℕ → ℕ) (budget : ℕ) → IsRoundTrace t opening budget → (g : List ℕ) → IsRoundOrder t g →
    (r x : ℕ) → reads_at t r x ≡ true → (s : Option ℕ) → (source t r x ≡ s) ↔ IsSource t (order_position g) r x s

-- the event at r reads a byte from s, a store or the opening bytes, by the load value axiom
abbrev pub ReadsFrom : List Event → List ℕ → ℕ → Option ℕ → Type 0
ReadsFrom t g r s = (x : ℕ) × (reads_at t r x ≡ true) × IsSource t (order_position g) r x s

-- so the arrows to a box come from the stores that its event read a byte from, and from above where it read an opening byte
abbrev pub ArrowsMeetAxiom : Type 0
ArrowsMeetAxiom =
    (t : List Event) (opening : ℕ → ℕ) (budget : ℕ) → IsRoundTrace t opening budget → (g : List ℕ) → IsRoundOrder t g → (r : ℕ) →
    ((w : ℕ) → (list_any (is_index w) (sources t r) ≡ true) ↔ ReadsFrom t g r (Some w))
    × ((list_any is_opening (sources t r) ≡ true) ↔ ReadsFrom t g r None)

-- a load that repeats an earlier one has its sources
abbrev pub RepeatsReadFromTheSame : Type 0
RepeatsReadFromTheSame = (t : List Event) (i j : ℕ) → i < j → repeats t i j ≡ true → sources t j ≡ sources t i
