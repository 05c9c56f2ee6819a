-- What watchpoints tell of the moves of a round.
use Rattle.std.specs.Prelude.{ℕ, ◌==◌, ◌||◌, ◌&&◌, not, Bool, true, false, List, [], ◌∷◌, ◌++◌, slice_index, Option, Some, None}
use Rattle.std.specs.List.{list_any, position}
use Rattle.pages.specs.declared.access.Range.{Range}
use Rattle.pages.specs.Memory.{in_range}
use Rattle.round_schedule.specs.declared.access.Access.{Access}
use Rattle.round_schedule.specs.declared.event.Phase.{Phase}
use Rattle.round_schedule.specs.Accesses.{address_of, bytes_of, loads, place_of, stores}
use Rattle.round_schedule.specs.Events.{is_serial}
use Rattle.round_schedule.specs.Held.{any_byte}
use Rattle.moments.specs.Moves.{Move}
use Rattle.watching.specs.declared.hits.Hit.{Hit}
use Rattle.watching.specs.declared.watchpoint.WatchKind.{WatchKind}
use Rattle.watching.specs.declared.watchpoint.WatchKind.TheVariants.{Changes, Reads, Accesses}
use Rattle.watching.specs.declared.watchpoint.Watchpoint.{Watchpoint}
use Rattle.watching.specs.declared.watchpoint.Way.{Way}
use Rattle.watching.specs.declared.watchpoint.Way.TheVariants.{On, Back}

-- whether an access speaks of a byte of the range; a fence speaks of none
abbrev pub speaks_of : Range → Access → Bool
speaks_of r a = any_byte (in_range r.start r.len) (address_of a) (bytes_of a)

-- ---- moves that are told as such

-- whether the move's hart sees another byte at an address after it than before it
abbrev pub changes : {H : Type 0} → Move H → ℕ → Bool
changes m x = not (slice_index m.before.bytes x == slice_index m.after.bytes x)

abbrev pub told_by : {H : Type 0} → WatchKind → Range → Move H → Access → Bool
told_by Changes r m a = any_byte (λ x. in_range r.start r.len x && changes m x) (address_of a) (bytes_of a)
told_by Reads r m a = loads a && speaks_of r a
told_by Accesses r m a = (loads a || stores a) && speaks_of r a

-- a move without an access is told of by no watchpoint; nor does one change a byte that it does not speak of
abbrev pub on_access : Option Access → (Access → Bool) → Bool
on_access None t = false
on_access (Some a) t = t a

abbrev pub is_told : {H : Type 0} → Move H → Watchpoint → Bool
is_told m w = on_access m.access (told_by w.kind w.range m)

-- ---- rivals

abbrev pub tells_changes : WatchKind → Bool
tells_changes Changes = true
tells_changes Reads = false
tells_changes Accesses = false

-- whether a move of the parallel phase writes to a range whose changes are told
abbrev pub writes_in_part : {H : Type 0} → Watchpoint → Move H → Bool
writes_in_part w m = tells_changes w.kind && (not (is_serial m.phase) && on_access m.access (λ a. stores a && speaks_of w.range a))

-- whether it is the only one of its hart's part to do so beside these others of the round, of which one is of another hart's part
abbrev pub is_rival : {H : Type 0} → List (Move H) → Move H → Watchpoint → Bool
is_rival others m w =
    writes_in_part w m && (not (list_any (λ k. k.hart == m.hart && writes_in_part w k) others) && list_any (writes_in_part w) others)

-- ---- the hits of a round

abbrev pub hit_at : Phase → ℕ → Access → Bool → Option ℕ → List Hit
hit_at phase hart a rival None = []
hit_at phase hart a rival (Some i) = record { phase = phase; hart = hart; place = place_of a; rival = rival; watch = i } ∷ []

-- on the way on a move's rivals come before it, and on the way back after it
abbrev pub beside : {A : Type 0} → Way → A → A → A
beside On earlier later = earlier
beside Back earlier later = later

abbrev pub access_hits : {H : Type 0} → List Watchpoint → List (Move H) → Move H → Option Access → List Hit
access_hits ws others m None = []
access_hits ws others m (Some a) = hit_at m.phase m.hart a true (position (is_rival others m) ws) ++ hit_at m.phase m.hart a false (position (is_told m) ws)

-- of these moves, after those earlier ones of their round
abbrev pub hits_after : {H : Type 0} → Way → List Watchpoint → List (Move H) → List (Move H) → List Hit
hits_after way ws earlier [] = []
hits_after way ws earlier (m ∷ ms) = access_hits ws (beside way earlier ms) m m.access ++ hits_after way ws (earlier ++ m ∷ []) ms

-- of a whole round
abbrev pub hits_of : {H : Type 0} → Way → List Watchpoint → List (Move H) → List Hit
hits_of way ws ms = hits_after way ws [] ms
