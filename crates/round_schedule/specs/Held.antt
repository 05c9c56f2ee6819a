-- Reservations, read off a trace (manual, section 8.2): a hart's is the bytes of its last LR, unless an SC of its own
-- or a write of another hart to one of these bytes came after.
use Rattle.std.specs.Prelude.{ℕ, zero, suc, ◌+◌, ◌==◌, ◌||◌, Bool, false, if◌then◌else◌, List, [], ◌∷◌, Option, Some, None}
use Rattle.pages.specs.Memory.{width_bytes}
use Rattle.round_schedule.specs.declared.access.Access.{Access}
use Rattle.round_schedule.specs.declared.access.Access.TheVariants.{LoadReserved, StoreConditional}
use Rattle.round_schedule.specs.declared.event.Event.{Event}
use Rattle.round_schedule.specs.declared.span.Span.{Span}
use Rattle.round_schedule.specs.Accesses.{writes}

-- whether the test passes at one of n addresses from a on
abbrev pub any_byte : (ℕ → Bool) → ℕ → ℕ → Bool
any_byte f a zero = false
any_byte f a (suc n) = f a || any_byte f (a + 1) n

-- a reservation of which a byte passes the test is broken
abbrev pub unless : (ℕ → Bool) → Option Span → Option Span
unless f None = None
unless f (Some s) = if any_byte f s.address (width_bytes s.width) then None else Some s

-- what a hart's own access leaves of its reservation: an LR sets it, an SC drops it
abbrev pub held_after_own : Access → Option Span → Option Span
held_after_own (LoadReserved w o p a r) s = Some (record { address = a; width = w })
held_after_own (StoreConditional w o p a v) s = None
held_after_own _ s = s

-- the reservation of hart h after an event
abbrev pub held_after : ℕ → Event → Option Span → Option Span
held_after h e s = if e.hart == h then held_after_own e.access s else unless (writes e.access) s

abbrev pub held_from : ℕ → Option Span → List Event → Option Span
held_from h s [] = s
held_from h s (e ∷ t) = held_from h (held_after h e s) t

-- the reservation of hart h at a trace's end
unfoldable pub held : ℕ → List Event → Option Span
held h t = held_from h None t
