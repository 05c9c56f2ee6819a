-- Breakpoints and watchpoints that come and go.
use Rattle.std.specs.Prelude.{◌≡◌, ℕ, ◌==◌, ◌&&◌, Bool, not, if◌then◌else◌, List, [], ◌∷◌, ◌++◌, filter, Option, Some, None}
use Rattle.std.specs.List.{list_any}
use Rattle.gdb_packets.specs.declared.request.Request.{Request}
use Rattle.gdb_packets.specs.declared.request.Request.TheVariants as requests
use Rattle.gdb_packets.specs.declared.request.Watch.{Watch}
use Rattle.gdb_packets.specs.declared.request.Watch.TheVariants as asked
use Rattle.moments.specs.Stops.{is_one_of}
use Rattle.watching.specs.declared.watchpoint.WatchKind.{WatchKind}
use Rattle.watching.specs.declared.watchpoint.WatchKind.TheVariants as kinds
use Rattle.watching.specs.declared.watchpoint.Watchpoint.{Watchpoint}
use Rattle.gdb_talk.specs.declared.stops.Stops.{Stops}

-- the addresses with this one
abbrev pub with_one : List ℕ → ℕ → List ℕ
with_one stops address = if is_one_of stops address then stops else stops ++ address ∷ []

abbrev pub differs_from : ℕ → ℕ → Bool
differs_from address stop = not (stop == address)

-- the addresses without this one
abbrev pub without_one : List ℕ → ℕ → List ℕ
without_one stops address = filter (differs_from address) stops

-- ---- watchpoints

abbrev pub kind_of : Watch → WatchKind
kind_of asked.Write = kinds.Changes
kind_of asked.Read = kinds.Reads
kind_of asked.Access = kinds.Accesses

abbrev pub watch_of : Watch → ℕ → ℕ → Watchpoint
watch_of kind address count = record { kind = kind_of kind; range = record { start = address; len = count } }

abbrev pub kind_number : WatchKind → ℕ
kind_number kinds.Changes = 0
kind_number kinds.Reads = 1
kind_number kinds.Accesses = 2

abbrev pub same_watch : Watchpoint → Watchpoint → Bool
same_watch w x = kind_number w.kind == kind_number x.kind && (w.range.start == x.range.start && w.range.len == x.range.len)

abbrev pub with_watch : List Watchpoint → Watchpoint → List Watchpoint
with_watch ws w = if list_any (same_watch w) ws then ws else ws ++ w ∷ []

abbrev pub without_watch : List Watchpoint → Watchpoint → List Watchpoint
without_watch ws w = filter (λ (x : Watchpoint). not (same_watch w x)) ws

-- ---- all of a session

-- the addresses of software and hardware breakpoints, and the watchpoints
pub record Stopping : Type 0 where
  pub software : List ℕ
  pub hardware : List ℕ
  pub watches : List Watchpoint

abbrev pub stopping : Stops → Stopping
stopping s = record { software = s.software.items; hardware = s.hardware.items; watches = s.watches.items }

abbrev pub no_stops : Stopping
no_stops = record { software = []; hardware = []; watches = [] }

-- after a request; none where it is none to change them
abbrev pub changed_by : Stopping → Request → Option Stopping
changed_by s (requests.AddStop address) = Some (record s { software = with_one s.software address })
changed_by s (requests.RemoveStop address) = Some (record s { software = without_one s.software address })
changed_by s (requests.AddHardwareStop address) = Some (record s { hardware = with_one s.hardware address })
changed_by s (requests.RemoveHardwareStop address) = Some (record s { hardware = without_one s.hardware address })
changed_by s (requests.AddWatch kind address count) = Some (record s { watches = with_watch s.watches (watch_of kind address count) })
changed_by s (requests.RemoveWatch kind address count) = Some (record s { watches = without_watch s.watches (watch_of kind address count) })
changed_by s request = None

-- one that is none changes nothing
abbrev pub IsUnchanged : Stopping → Request → Stopping → Type 0
IsUnchanged s request t = (changed_by s request ≡ None) × (t ≡ s)
