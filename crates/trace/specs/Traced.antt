-- Traces as callers see them: events whose accesses have their forms and whose places rise, over opening bytes.
use Rattle.std.specs.Prelude.{◌≡◌, ℕ, ◌-◌, ◌<◌, ◌^◌, if◌then◌else◌, List, [], ◌∷◌, length, map, slice_index, All}
use Rattle.std.specs.List.{range_with_len}
use Rattle.pages.specs.declared.access.Piece.{Piece}
use Rattle.pages.specs.Memory.{in_range}
use Rattle.round_schedule.specs.declared.event.Event.{Event}
use Rattle.round_schedule.specs.Accesses.{place_of}
use Rattle.round_schedule.specs.Places.{PlacesRise}
use Rattle.round_schedule.specs.Positions.{event}
use Rattle.hart_step.specs.Forms.{Formed}

-- bytes that lie in memory from an address on
pub record Laid : Type 0 where
  pub start : ℕ
  pub bytes : List ℕ

abbrev pub laid : Piece → Laid
laid p = record { start = p.start; bytes = p.bytes.items }

-- the byte at an address: that of the first piece that holds it, else 0
abbrev pub opening_at : List Laid → ℕ → ℕ
opening_at [] x = 0
opening_at (p ∷ ps) x = if in_range p.start (length p.bytes) x then slice_index p.bytes (x - p.start) else opening_at ps x

-- the bytes of the first n addresses
unfoldable pub opening_bytes : List Laid → ℕ → List ℕ
opening_bytes ps n = map (opening_at ps) (range_with_len 0 n)

-- the bytes that memory opened with, the events so far, the room that is reserved for more, and for how many logs there is room
pub record Traced : Type 0 where
  pub opening : List Laid
  pub events : List Event
  pub room : ℕ
  pub logs : ℕ

-- its access has the form of its kind, with an address below 2^32
abbrev pub HasForm : Event → Type 0
HasForm e = Formed (2 ^ 32) e.access

-- each event has the form of its kind, and a hart's places rise
pub record IsTrace (t : List Event) : Type 0 where
  pub formed : All HasForm t
  pub rising : PlacesRise t

-- the event's place is above those of its hart's events in the list
abbrev pub StandsAbove : List Event → Event → Type 0
StandsAbove t e = (k : ℕ) → k < length t → (event t k).hart ≡ e.hart → place_of (event t k).access < place_of e.access
