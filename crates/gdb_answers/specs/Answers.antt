-- What a debugger is answered about a hart of a run at a point, byte by byte.
use Rattle.std.specs.Prelude.{ℕ, zero, suc, ◌==◌, if◌then◌else◌, List, [], ◌∷◌, ◌++◌, length, codes, min, slice_get, Option, Some, None}
use Rattle.std.specs.Option.{option_map}
use Rattle.hex.specs.Hex.{encode_lower}
use Rattle.hart_step.specs.declared.hart.Hart.{Hart}
use Rattle.machine.specs.Machine.{Running, after_rounds}
use Rattle.moments.specs.Sights.{Sight}
use Rattle.moments.specs.Bytes.{bytes_from}
use Rattle.past_harts.specs.declared.moment.Moment.{Moment}
use Rattle.past_harts.specs.declared.point.Point.{Point}
use Rattle.timelines.specs.OwnParts.{waits_at, uncommitted}
use Rattle.timelines.specs.Shown.{seen}
use Rattle.gdb_replies.specs.Replies.{checksum_text, note_text, part_of, thread_element, thread_list_begin, thread_list_end}
use Rattle.gdb_replies.specs.Words.{numbers_of, register_text, registers_text}
use Rattle.gdb_replies.specs.declared.note.ThreadNote.{ThreadNote}
use Rattle.checksums.specs.Checksums.{checksum_of}
use Rattle.gdb_answers.specs.Files.{most_read}
use Rattle.gdb_answers.specs.Stores.{bytes_covered}
use Rattle.gdb_talk.specs.Told.{note_of, or_missing, registers_of}

-- a register by its number, and `E01` where there is none
abbrev pub number_answer : Option ℕ → List ℕ
number_answer None = codes "E01"
number_answer (Some v) = register_text v

abbrev pub register_answer : ℕ → Moment → Option (Sight Hart) → List ℕ
register_answer n at s = or_missing s (λ (x : Sight Hart). number_answer (slice_get (numbers_of (registers_of x.hart at)) n))

abbrev pub registers_answer : Moment → Option (Sight Hart) → List ℕ
registers_answer at s = or_missing s (λ (x : Sight Hart). registers_text (registers_of x.hart at))

-- fewer bytes where memory ends before, and `E01` where there are none
abbrev pub bytes_answer : List ℕ → List ℕ
bytes_answer [] = codes "E01"
bytes_answer (b ∷ bs) = encode_lower (b ∷ bs)

-- no more than 32,000 bytes are told at once: so a reply, of two digits for each, is no longer than a packet may be
abbrev pub memory_answer : ℕ → ℕ → Option (Sight Hart) → List ℕ
memory_answer address count s = or_missing s (λ (x : Sight Hart). bytes_answer (bytes_from x.bytes address (min count most_read)))

-- what is said of hart i where it is seen so: where it is, whether it waits for its turn, and how many bytes its stores cover that are not committed
abbrev pub note_seen : Running → Point → ℕ → Sight Hart → ThreadNote
note_seen m at i s =
    let n = note_of i s.hart at.moment in
    record n { waits = waits_at (after_rounds at.moment.rounds m) at.moment.place i; uncommitted = bytes_covered (uncommitted m at i) }

abbrev pub note_at : Running → Point → ℕ → Option ThreadNote
note_at m at i = option_map (note_seen m at i) (seen m at i)

abbrev pub note_answer : Option ThreadNote → List ℕ
note_answer None = codes "E01"
note_answer (Some n) = encode_lower (note_text n)

-- the list of threads of the first n harts, and a part of it
abbrev pub thread_entry : Option ThreadNote → List ℕ
thread_entry None = []
thread_entry (Some n) = thread_element n

unfoldable pub thread_entries : Running → Point → ℕ → List ℕ
thread_entries m at zero = []
thread_entries m at (suc i) = thread_entries m at i ++ thread_entry (note_at m at i)

abbrev pub thread_list_answer : Running → Point → ℕ → ℕ → ℕ → List ℕ
thread_list_answer m at harts offset count = part_of (thread_list_begin ++ thread_entries m at harts ++ thread_list_end) offset count

-- the checksum of so many bytes, and `E01` where memory ends before
abbrev pub sum_answer : ℕ → List ℕ → List ℕ
sum_answer count bs = if length bs == count then checksum_text (checksum_of bs) else codes "E01"

abbrev pub checksum_answer : ℕ → ℕ → Option (Sight Hart) → List ℕ
checksum_answer address count s = or_missing s (λ (x : Sight Hart). sum_answer count (bytes_from x.bytes address count))
