-- Reservations as a relation on places of a trace (manual, section 8.2).
use Rattle.std.specs.Prelude.{◌≡◌, ◌≢◌, ℕ, ◌<◌, ◌||◌, true, List, length, Some}
use Rattle.pages.specs.Memory.{in_range, width_bytes}
use Rattle.round_schedule.specs.declared.event.Event.{Event}
use Rattle.round_schedule.specs.declared.span.Span.{Span}
use Rattle.round_schedule.specs.Accesses.{is_lr, is_sc}
use Rattle.round_schedule.specs.Held.{held}
use Rattle.round_schedule.specs.Positions.{event, writes_at}
use Rattle.round_schedule.specs.Spans.{span_of}

-- the last LR of hart h is at l and has these bytes, no SC of the hart follows it, and no write of another hart to them
pub record HeldBy (t : List Event) (h : ℕ) (s : Span) (l : ℕ) : Type 0 where
  pub within : l < length t
  pub same_hart : (event t l).hart ≡ h
  pub reserved : is_lr (event t l).access ≡ true
  pub bytes : span_of (event t l).access ≡ Some s
  pub last : (k : ℕ) → l < k → k < length t → (event t k).hart ≡ h → (is_lr (event t k).access || is_sc (event t k).access) ≡ true → ⊥
  pub unbroken : (k x : ℕ) → l < k → k < length t → (event t k).hart ≢ h → in_range s.address (width_bytes s.width) x ≡ true → writes_at t k x ≡ true → ⊥

-- the reservation that a trace leaves a hart is that of such an LR, and where there is one the hart has it
abbrev pub HeldIsByLastReserve : Type 0
HeldIsByLastReserve =
    (t : List Event) (h : ℕ) (s : Span) → (held h t ≡ Some s → (l : ℕ) × HeldBy t h s l) × ((l : ℕ) → HeldBy t h s l → held h t ≡ Some s)
