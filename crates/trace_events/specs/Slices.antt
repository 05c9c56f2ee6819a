-- Slices of tracks, as JSON objects of Chrome's trace events. Track 0 is that of the rounds, and track h + 1 that of hart h. Time is
-- the index in the trace, in microseconds. Each object begins with the comma and the end of the line before it.
use Rattle.std.specs.Prelude.{ℕ, ◌+◌, ◌==◌, ◌&&◌, Bool, not, true, if◌then◌else◌, List, [], ◌++◌, codes, length, take_while, Option, Some, None}
use Rattle.std.specs.Fmt.{decimal}
use Rattle.pages.specs.declared.access.Width.{Width}
use Rattle.pages.specs.Memory.{width_bytes}
use Rattle.rv64_decode.specs.declared.ordering.AcquireRelease.{AcquireRelease}
use Rattle.rv64_decode.specs.declared.ordering.FenceMode.{FenceMode}
use Rattle.rv64_decode.specs.declared.ordering.FenceSet.{FenceSet}
use Rattle.round_schedule.specs.declared.access.Access.{Access}
use Rattle.round_schedule.specs.declared.access.Access.TheVariants.{Load, Store, LoadReserved, StoreConditional, Atomic, Fence}
use Rattle.round_schedule.specs.declared.event.Event.{Event}
use Rattle.round_schedule.specs.Accesses.{place_of}
use Rattle.round_schedule.specs.Events.{is_serial}
use Rattle.report_lines.specs.Text.{hex, mode_text, number_text, ordering_text, phase_text, set_number}

-- ---- a slice of one microsecond for each event

-- the word of the trace for what was done
abbrev pub name_text : Access → List ℕ
name_text (Load w p a r) = codes "load"
name_text (Store w p a v) = codes "store"
name_text (LoadReserved w o p a r) = codes "lr"
name_text (StoreConditional w o p a v) = codes "sc"
name_text (Atomic w o p a r v) = codes "amo"
name_text (Fence b f m p) = codes "fence"

-- the address, the number of bytes, and the numbers that were read and written, as in the trace
unfoldable pub operands_text : Width → ℕ → Option ℕ → Option ℕ → List ℕ
operands_text w a r v =
    codes ",\"address\":\"" ++ hex 8 a ++ codes "\",\"bytes\":" ++ decimal (width_bytes w)
    ++ codes ",\"read\":\"" ++ number_text w r ++ codes "\",\"written\":\"" ++ number_text w v ++ codes "\""

-- the ordering bits
unfoldable pub ordering_member : AcquireRelease → List ℕ
ordering_member o = codes ",\"ordering\":\"" ++ ordering_text o ++ codes "\""

-- what a fence orders
unfoldable pub fence_text : FenceSet → FenceSet → FenceMode → List ℕ
fence_text b f m =
    codes ",\"before\":" ++ decimal (set_number b) ++ codes ",\"after\":" ++ decimal (set_number f) ++ codes ",\"mode\":\"" ++ mode_text m ++ codes "\""

unfoldable pub arguments_text : Access → List ℕ
arguments_text (Load w p a r) = operands_text w a (Some r) None
arguments_text (Store w p a v) = operands_text w a None (Some v)
arguments_text (LoadReserved w o p a r) = ordering_member o ++ operands_text w a (Some r) None
arguments_text (StoreConditional w o p a v) = ordering_member o ++ operands_text w a None v
arguments_text (Atomic w o p a r v) = ordering_member o ++ operands_text w a (Some r) (Some v)
arguments_text (Fence b f m p) = fence_text b f m

-- the start of a slice on a track
unfoldable pub slice_start : ℕ → ℕ → ℕ → List ℕ
slice_start track time count =
    codes ",\n{\"ph\":\"X\",\"pid\":0,\"tid\":" ++ decimal track ++ codes ",\"ts\":" ++ decimal time ++ codes ",\"dur\":" ++ decimal count
    ++ codes ",\"name\":\""

-- the slice of the event at index i, on its hart's track
unfoldable pub event_text : ℕ → Event → List ℕ
event_text i e =
    slice_start (e.hart + 1) i 1 ++ name_text e.access ++ codes "\",\"args\":{\"round\":" ++ decimal e.round ++ codes ",\"phase\":\""
    ++ phase_text e.phase ++ codes "\",\"place\":" ++ decimal (place_of e.access) ++ arguments_text e.access ++ codes "}}"

-- ---- slices of the rounds

abbrev pub same_round : Event → Event → Bool
same_round e f = e.round == f.round

-- of the serial phase of one round
abbrev pub same_serial : Event → Event → Bool
same_serial e f = same_round e f && (is_serial e.phase && is_serial f.phase)

-- no event stands before it, or one that isn't of the same part
abbrev pub opens : (Event → Event → Bool) → Option Event → Event → Bool
opens same None e = true
opens same (Some before) e = not (same before e)

-- how many events the part has that begins with e, which these events follow
abbrev pub count_of_slice : (Event → Event → Bool) → Event → List Event → ℕ
count_of_slice same e es = length (take_while (same e) es) + 1

-- the slice of a round, before its first event
unfoldable pub round_text : ℕ → Option Event → Event → List Event → List ℕ
round_text i before e es =
    if opens same_round before e
    then slice_start 0 i (count_of_slice same_round e es) ++ codes "round " ++ decimal e.round ++ codes "\"}"
    else []

-- the slice of a serial phase, before its first event
unfoldable pub serial_text : ℕ → Option Event → Event → List Event → List ℕ
serial_text i before e es =
    if is_serial e.phase && opens same_serial before e
    then slice_start 0 i (count_of_slice same_serial e es) ++ codes "serial phase\"}"
    else []
