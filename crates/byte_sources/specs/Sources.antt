-- Where a byte that is read comes from, found in the trace alone.
use Rattle.std.specs.Prelude.{ℕ, zero, suc, ◌+◌, ◌-◌, ◌==◌, ◌&&◌, ◌||◌, Bool, true, false, if◌then◌else◌, nat_lt, List, [], map, Option, Some, None}
use Rattle.std.specs.List.{range_with_len}
use Rattle.round_schedule.specs.declared.access.Access.{Access}
use Rattle.round_schedule.specs.declared.event.Event.{Event}
use Rattle.round_schedule.specs.Accesses.{address_of, bytes_of, loads}
use Rattle.round_schedule.specs.Events.{is_serial}
use Rattle.round_schedule.specs.Positions.{event, writes_at}

-- whether the event r, later in the trace, may see what the event w wrote: a serial event all of it, and a parallel one
-- what is of an earlier round or of its own hart
abbrev pub sees : Event → Event → Bool
sees r w = is_serial r.phase || nat_lt w.round r.round || w.hart == r.hart

-- the greatest number below n that passes a test
abbrev pub last_below : (ℕ → Bool) → ℕ → Option ℕ
last_below test zero = None
last_below test (suc n) = if test n then Some n else last_below test n

-- whether the event at w writes the byte x, and the event r may see it
abbrev pub gives : List Event → Event → ℕ → ℕ → Bool
gives t r x w = writes_at t w x && sees r (event t w)

-- the index of the store that the byte x of the event at r is from; none where it is as memory opened
unfoldable pub source : List Event → ℕ → ℕ → Option ℕ
source t r x = last_below (gives t (event t r) x) r

-- the numbers from one up to another
abbrev pub between : ℕ → ℕ → List ℕ
between a b = range_with_len a (b - a)

-- the addresses of an access's bytes
abbrev pub bytes : Access → List ℕ
bytes a = between (address_of a) (address_of a + bytes_of a)

-- the sources of all bytes of the event at r; none where it reads nothing
unfoldable pub sources : List Event → ℕ → List (Option ℕ)
sources t r = if loads (event t r).access then map (source t r) (bytes (event t r).access) else []

abbrev pub is_index : ℕ → Option ℕ → Bool
is_index w None = false
is_index w (Some v) = v == w

abbrev pub is_opening : Option ℕ → Bool
is_opening None = true
is_opening (Some w) = false
