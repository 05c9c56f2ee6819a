-- Where an order first has each index.
use Rattle.std.specs.Prelude.{◌≡◌, ℕ, ◌<◌, ◌≤◌, ◌⊎◌, List, length, slice_index}
use Rattle.round_schedule.specs.declared.event.Event.{Event}

-- of each event's index the first of the first n positions at which an order has it, and the order's length where none has it
pub record AreFirstPositions (t : List Event) (g : List ℕ) (n : ℕ) (firsts : List ℕ) : Type 0 where
  pub size : length firsts ≡ length t
  pub there : (a : ℕ) → a < length t → (slice_index firsts a ≡ length g) ⊎ ((slice_index firsts a < n) × (slice_index g (slice_index firsts a) ≡ a))
  pub first : (p : ℕ) → p < n → slice_index firsts (slice_index g p) ≤ p
