-- The boxes of events: what was done, where, and the numbers that were read and written.
use Rattle.std.specs.Prelude.{ℕ, ◌+◌, ◌-◌, ◌*◌, ◌==◌, ◌&&◌, if◌then◌else◌, List, [], ◌++◌, codes, length, Option, Some, None}
use Rattle.std.specs.Fmt.{decimal}
use Rattle.pages.specs.declared.access.Width.{Width}
use Rattle.pages.specs.Memory.{width_bytes}
use Rattle.rv64_decode.specs.declared.ordering.AcquireRelease.{AcquireRelease}
use Rattle.rv64_decode.specs.declared.ordering.FenceMode.{FenceMode}
use Rattle.rv64_decode.specs.declared.ordering.FenceMode.TheVariants.{Normal, Tso}
use Rattle.rv64_decode.specs.declared.ordering.FenceSet.{FenceSet}
use Rattle.round_schedule.specs.declared.access.Access.{Access}
use Rattle.round_schedule.specs.declared.access.Access.TheVariants.{Load, Store, LoadReserved, StoreConditional, Atomic, Fence}
use Rattle.round_schedule.specs.declared.event.Event.{Event}
use Rattle.round_schedule.specs.Accesses.{bytes_of, loads, read_of}
use Rattle.round_schedule.specs.Events.{is_serial}
use Rattle.report_lines.specs.Text.{hex}
use Rattle.byte_sources.specs.Marks.{mark_of}
use Rattle.byte_sources.specs.declared.mark.Mark.{Mark}
use Rattle.byte_sources.specs.declared.mark.Mark.TheVariants.{Lost, Plain, Unread}
use Rattle.picture.specs.declared.elements.Point.{Point}
use Rattle.picture.specs.declared.event_box.EventBox.{EventBox}
use Rattle.picture.specs.Elements.{label_text, rectangle_text, wait_text}
use Rattle.picture.specs.Layout.{left_of, opens_turn}
use Rattle.picture.specs.Titles.{Told, title_text, told_at}

-- ---- what was done

abbrev pub ordering_text : AcquireRelease → List ℕ
ordering_text o = if o.acquire then (if o.release then codes ".aqrl" else codes ".aq") else (if o.release then codes ".rl" else [])

abbrev pub set_text : FenceSet → List ℕ
set_text s = if s.reads then (if s.writes then codes "rw" else codes "r") else (if s.writes then codes "w" else codes "-")

abbrev pub mode_text : FenceMode → List ℕ
mode_text Normal = []
mode_text Tso = codes " tso"

-- how many bytes, the ordering bits, and the address
abbrev pub operand_text : Width → List ℕ → ℕ → List ℕ
operand_text w ordering a = decimal (width_bytes w) ++ ordering ++ codes " " ++ hex 8 a

unfoldable pub access_text : Access → List ℕ
access_text (Load w p a r) = codes "load." ++ operand_text w [] a
access_text (Store w p a v) = codes "store." ++ operand_text w [] a
access_text (LoadReserved w o p a r) = codes "lr." ++ operand_text w (ordering_text o) a
access_text (StoreConditional w o p a v) = codes "sc." ++ operand_text w (ordering_text o) a
access_text (Atomic w o p a r v) = codes "amo." ++ operand_text w (ordering_text o) a
access_text (Fence b f m p) = codes "fence " ++ set_text b ++ codes " " ++ set_text f ++ mode_text m

-- what an access of so many bytes read
abbrev pub read_text : ℕ → Option ℕ → List ℕ
read_text count None = []
read_text count (Some v) = codes "read " ++ hex (2 * count) v

abbrev pub value_text : Width → ℕ → List ℕ
value_text w v = codes "wrote " ++ hex (2 * width_bytes w) v

-- what was written; an SC that failed says so
unfoldable pub written_text : Access → List ℕ
written_text (Load w p a r) = []
written_text (Store w p a v) = value_text w v
written_text (LoadReserved w o p a r) = []
written_text (StoreConditional w o p a None) = codes "failed"
written_text (StoreConditional w o p a (Some v)) = value_text w v
written_text (Atomic w o p a r v) = value_text w v
written_text (Fence b f m p) = []

-- how many in a row are the same load, where they are several
abbrev pub times_text : ℕ → List ℕ
times_text n = if n == 1 then [] else decimal n ++ codes " times"

-- ---- the box

-- a store that nobody read has a class of its own: one where another hart overwrote it, and one where its own hart did
abbrev pub box_class : Mark → List ℕ
box_class Lost = codes "lost"
box_class Unread = codes "unread"
box_class Plain = codes "box"

-- a line in a box, so far below its top
abbrev pub line_at : EventBox → ℕ → Point
line_at b down = record { x = left_of b.event.hart + 8; y = b.top + down }

unfoldable pub outline_text : Mark → EventBox → List ℕ
outline_text mark b = rectangle_text (box_class mark) (record { x = left_of b.event.hart; y = b.top; width = 178; height = 48 })

-- what was written, and how many the box stands for: of the two a load has only the latter, and no other event has that
abbrev pub last_text : EventBox → List ℕ
last_text b = written_text b.event.access ++ times_text b.times

-- three lines: what was done, what was read, and the last one, which moves up where nothing was read
unfoldable pub lines_text : EventBox → List ℕ
lines_text b =
    label_text (codes "line") (line_at b 15) (access_text b.event.access)
    ++ label_text (codes "line") (line_at b 28) (read_text (bytes_of b.event.access) (read_of b.event.access))
    ++ label_text (codes "line") (line_at b (if loads b.event.access then 41 else 28)) (last_text b)

-- the first event of a hart in the serial phase of a round is marked: the hart had waited for it
unfoldable pub waited_text : List EventBox → EventBox → List ℕ
waited_text earlier b =
    if is_serial b.event.phase && opens_turn earlier b.event
    then wait_text (record { x = left_of b.event.hart + 6; y = b.top - 15 })
    else []

-- the box of an event of a trace, over memory that opened with these bytes, with its title
unfoldable pub box_text : List Event → (ℕ → ℕ) → List Told → List EventBox → EventBox → List ℕ
box_text t opening told earlier b =
    codes "<g>\n" ++ title_text b.event (told_at told (length earlier)) ++ outline_text (mark_of t opening b.index) b ++ lines_text b
    ++ waited_text earlier b ++ codes "</g>\n"
