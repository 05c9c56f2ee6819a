-- Why an ELF file is refused: the table of causes over its fields and segments. Sums are exact.
use Rattle.std.specs.Prelude.{◌≡◌, ◌≢◌, ℕ, ◌+◌, ◌*◌, ◌%◌, ◌<◌, ◌==◌, ◌&&◌, ◌||◌, Bool, true, false, nat_le, nat_lt, not, List, length, slice_index}
use Rattle.std.specs.List.{list_any}
use Rattle.pages.specs.Memory.{all_code}
use Rattle.pages.specs.declared.access.Range.{Range}
use Rattle.elf_loader.specs.Segments.{SomeShare, code_of, entry_of, header_count_of, header_size_of, is_executable, is_writable, machine_of, segments_of, table_of, type_of}
use Rattle.host_io.specs.declared.load_error.LoadError.{LoadError}
use Rattle.host_io.specs.declared.load_error.LoadError.TheVariants as causes
use Rattle.elf_loader.specs.declared.segment.Segment.{Segment}

-- the magic bytes
abbrev pub has_magic : List ℕ → Bool
has_magic file = (slice_index file 0 == 0x7f) && (slice_index file 1 == 0x45) && (slice_index file 2 == 0x4c) && (slice_index file 3 == 0x46)

-- class 2, data 1 and version 1
abbrev pub is_little_64 : List ℕ → Bool
is_little_64 file = (slice_index file 4 == 2) && (slice_index file 5 == 1) && (slice_index file 6 == 1)

-- a part passes an end where its start plus its length is greater
abbrev pub passes : ℕ → ℕ → ℕ → Bool
passes end start len = nat_lt end (start + len)

-- program headers of 56 bytes, 1 to 64 of them, all in the file
abbrev pub has_table : List ℕ → Bool
has_table file =
    (header_size_of file == 56) && nat_le 1 (header_count_of file) && nat_le (header_count_of file) 64
    && not (passes (length file) (table_of file) (56 * header_count_of file))

-- a segment that passes the file's end, or has more bytes in the file than in memory
abbrev pub is_past_file : ℕ → Segment → Bool
is_past_file end s = passes end s.offset s.file_len || nat_lt s.memory_len s.file_len

abbrev pub is_past_memory : ℕ → Segment → Bool
is_past_memory end s = passes end s.address s.memory_len

abbrev pub is_writable_code : Segment → Bool
is_writable_code s = is_executable s && is_writable s

-- a multiple of 4 whose four bytes are code
abbrev pub is_entry : List Range → ℕ → Bool
is_entry code entry = (entry % 4 == 0) && all_code code entry 4

-- the cause stands in an ELF file for so many pages
abbrev pub StandsInElf : List ℕ → ℕ → LoadError → Type 0
StandsInElf file pages causes.TooShort = length file < 64
StandsInElf file pages causes.Magic = has_magic file ≡ false
StandsInElf file pages causes.Class = is_little_64 file ≡ false
StandsInElf file pages causes.Type = type_of file ≢ 2
StandsInElf file pages causes.Machine = machine_of file ≢ 243
StandsInElf file pages causes.HeaderTable = has_table file ≡ false
StandsInElf file pages causes.SegmentPastFile = list_any (is_past_file (length file)) (segments_of file) ≡ true
StandsInElf file pages causes.PastMemory = list_any (is_past_memory (4096 * pages)) (segments_of file) ≡ true
StandsInElf file pages causes.SharedAddress = SomeShare (segments_of file)
StandsInElf file pages causes.WritableCode = list_any is_writable_code (segments_of file) ≡ true
StandsInElf file pages causes.Entry = is_entry (code_of (segments_of file)) (entry_of file) ≡ false
StandsInElf file pages causes.FlatLength = ⊥
StandsInElf file pages causes.OutOfMemory = ⊥
