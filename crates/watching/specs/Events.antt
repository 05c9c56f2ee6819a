-- The same as it is found from the events of a round, and the watched bytes at its start.
use Rattle.std.specs.Prelude.{ℕ, ◌==◌, ◌||◌, ◌&&◌, not, Bool, true, false, if◌then◌else◌, List, [], ◌∷◌, ◌++◌, Option, Some, None}
use Rattle.std.specs.List.{list_any, position}
use Rattle.pages.specs.declared.access.Range.{Range}
use Rattle.pages.specs.Memory.{in_range}
use Rattle.round_schedule.specs.declared.event.Event.{Event}
use Rattle.round_schedule.specs.Accesses.{address_of, byte_written, bytes_of, loads, stores, writes}
use Rattle.round_schedule.specs.Events.{is_serial}
use Rattle.round_schedule.specs.Held.{any_byte}
use Rattle.watching.specs.declared.hits.Hit.{Hit}
use Rattle.watching.specs.declared.watchpoint.WatchKind.{WatchKind}
use Rattle.watching.specs.declared.watchpoint.WatchKind.TheVariants.{Changes, Reads, Accesses}
use Rattle.watching.specs.declared.watchpoint.Watchpoint.{Watchpoint}
use Rattle.watching.specs.declared.watchpoint.Way.{Way}
use Rattle.watching.specs.Saved.{SavedBytes, saved_byte}
use Rattle.watching.specs.Watches.{beside, hit_at, speaks_of, tells_changes}

-- an event speaks of a byte of one of the ranges
abbrev pub touches_some : List Watchpoint → Event → Bool
touches_some ws e = list_any (λ (w : Watchpoint). speaks_of w.range e.access) ws

-- the hart of an event sees what this earlier one wrote: in its turn all of the round's, and before it its own
abbrev pub sees : Event → Event → Bool
sees e f = is_serial e.phase || (f.hart == e.hart)

-- the byte at x as it sees it before the event, after these earlier ones, where the round begins with b there
abbrev pub seen_by : Event → ℕ → ℕ → List Event → ℕ
seen_by e x b [] = b
seen_by e x b (f ∷ fs) = seen_by e x (if sees e f && writes f.access x then byte_written f.access x else b) fs

-- whether the event leaves its hart with another byte at x, where the round begins with b there
abbrev pub changes_from : ℕ → List Event → Event → ℕ → Bool
changes_from b earlier e x = writes e.access x && not (seen_by e x b earlier == byte_written e.access x)

abbrev pub changes_at : Option ℕ → List Event → Event → ℕ → Bool
changes_at None earlier e x = false
changes_at (Some b) earlier e x = changes_from b earlier e x

abbrev pub changes : List SavedBytes → List Event → Event → ℕ → Bool
changes saved earlier e x = changes_at (saved_byte saved x) earlier e x

abbrev pub tells_by : WatchKind → Range → List SavedBytes → List Event → Event → Bool
tells_by Changes r saved earlier e = any_byte (λ x. in_range r.start r.len x && changes saved earlier e x) (address_of e.access) (bytes_of e.access)
tells_by Reads r saved earlier e = loads e.access && speaks_of r e.access
tells_by Accesses r saved earlier e = (loads e.access || stores e.access) && speaks_of r e.access

abbrev pub tells : List SavedBytes → List Event → Event → Watchpoint → Bool
tells saved earlier e w = tells_by w.kind w.range saved earlier e

-- the first watchpoint that tells of an event by itself, where its hart sees these bytes before it at the event's addresses
abbrev pub bytes_there : Event → List ℕ → List SavedBytes
bytes_there e bs = record { range = record { start = address_of e.access; len = bytes_of e.access }; bytes = bs } ∷ []

abbrev pub told_alone : List Watchpoint → Event → List ℕ → Option ℕ
told_alone ws e bs = position (tells (bytes_there e bs) [] e) ws

abbrev pub writes_in_part : Watchpoint → Event → Bool
writes_in_part w e = tells_changes w.kind && (not (is_serial e.phase) && (stores e.access && speaks_of w.range e.access))

abbrev pub is_rival : List Event → Event → Watchpoint → Bool
is_rival others e w =
    writes_in_part w e && (not (list_any (λ (f : Event). f.hart == e.hart && writes_in_part w f) others) && list_any (writes_in_part w) others)

abbrev pub event_hits : Way → List SavedBytes → List Watchpoint → List Event → List Event → Event → List Hit
event_hits way saved ws earlier later e =
    hit_at e.phase e.hart e.access true (position (is_rival (beside way earlier later) e) ws)
    ++ hit_at e.phase e.hart e.access false (position (tells saved earlier e) ws)

abbrev pub hits_from : Way → List SavedBytes → List Watchpoint → List Event → List Event → List Hit
hits_from way saved ws earlier [] = []
hits_from way saved ws earlier (e ∷ es) = event_hits way saved ws earlier es e ++ hits_from way saved ws (earlier ++ e ∷ []) es
