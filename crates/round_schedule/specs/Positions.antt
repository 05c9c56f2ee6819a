-- Events of a trace by their places in it.
use Rattle.std.specs.Prelude.{◌≡◌, ℕ, ◌<◌, ◌≤◌, Bool, false, List, slice_index_or, Option, Some, None}
use Rattle.rv64_decode.specs.declared.ordering.FenceMode.TheVariants.{Normal}
use Rattle.round_schedule.specs.declared.access.Access.TheVariants.{Fence}
use Rattle.round_schedule.specs.declared.event.Event.{Event}
use Rattle.round_schedule.specs.declared.event.Phase.TheVariants.{Parallel}
use Rattle.round_schedule.specs.Accesses.{reads, writes, byte_written}

-- what stands past a trace's end: a fence that orders nothing
unfoldable pub no_event : Event
no_event = record {
  access = Fence (record { reads = false; writes = false }) (record { reads = false; writes = false }) Normal 0;
  round = 0;
  hart = 0;
  phase = Parallel;
}

abbrev pub event : List Event → ℕ → Event
event t i = slice_index_or t i no_event

-- whether the event at a place reads or writes the byte at an address
abbrev pub reads_at : List Event → ℕ → ℕ → Bool
reads_at t i x = reads (event t i).access x

abbrev pub writes_at : List Event → ℕ → ℕ → Bool
writes_at t i x = writes (event t i).access x

-- program order: the order of the trace, on the events of one hart
pub record ProgramBefore (t : List Event) (a b : ℕ) : Type 0 where
  pub earlier : a < b
  pub same_hart : (event t a).hart ≡ (event t b).hart

-- of the places that P holds of, the one with the greatest rank
abbrev pub IsLatest : (ℕ → ℕ) → (ℕ → Type 0) → Option ℕ → Type 0
IsLatest rank P None = (w : ℕ) → P w → ⊥
IsLatest rank P (Some w) = P w × ((v : ℕ) → P v → rank v ≤ rank w)

-- the byte at an address that the write at a place leaves, and the opening byte where there is none
abbrev pub source_byte : List Event → (ℕ → ℕ) → ℕ → Option ℕ → ℕ
source_byte t opening x None = opening x
source_byte t opening x (Some w) = byte_written (event t w).access x
