-- The segments of an ELF64 file, read from its fields by their offsets.
use Rattle.std.specs.Prelude.{◌≡◌, ℕ, zero, suc, ◌+◌, ◌-◌, ◌==◌, Bool, true, if◌then◌else◌, bit_and, List, [], ◌∷◌, drop, slice_index, map, filter, Any, ◌⊎◌}
use Rattle.byteorder.specs.Endian.{little_number}
use Rattle.pages.specs.Memory.{in_range}
use Rattle.pages.specs.declared.access.Range.{Range}
use Rattle.elf_loader.specs.declared.segment.Segment.{Segment}

-- the number in n bytes of a file from an offset on, least significant first
unfoldable pub field : List ℕ → ℕ → ℕ → ℕ
field file at n = little_number n (drop at file)

-- of the file's header: its type and machine, its entry, and the offset, entry size and count of its program headers
abbrev pub type_of : List ℕ → ℕ
type_of file = field file 16 2

abbrev pub machine_of : List ℕ → ℕ
machine_of file = field file 18 2

abbrev pub entry_of : List ℕ → ℕ
entry_of file = field file 24 8

abbrev pub table_of : List ℕ → ℕ
table_of file = field file 32 8

abbrev pub header_size_of : List ℕ → ℕ
header_size_of file = field file 54 2

abbrev pub header_count_of : List ℕ → ℕ
header_count_of file = field file 56 2

-- the type of the program header at an offset, and the segment that it tells
abbrev pub kind_at : List ℕ → ℕ → ℕ
kind_at file at = field file at 4

abbrev pub segment_at : List ℕ → ℕ → Segment
segment_at file at = record {
  flags = field file (at + 4) 4;
  offset = field file (at + 8) 8;
  address = field file (at + 16) 8;
  file_len = field file (at + 32) 8;
  memory_len = field file (at + 40) 8;
}

-- the segments of n program headers from an offset on: those of type 1
abbrev pub segments_from : List ℕ → ℕ → ℕ → List Segment
segments_from file at zero = []
segments_from file at (suc n) =
    if kind_at file at == 1 then segment_at file at ∷ segments_from file (at + 56) n else segments_from file (at + 56) n

unfoldable pub segments_of : List ℕ → List Segment
segments_of file = segments_from file (table_of file) (header_count_of file)

-- the flags X and W
abbrev pub is_executable : Segment → Bool
is_executable s = bit_and s.flags 1 == 1

abbrev pub is_writable : Segment → Bool
is_writable s = bit_and s.flags 2 == 2

-- a segment with X is a code range
abbrev pub memory_range : Segment → Range
memory_range s = record { start = s.address; len = s.memory_len }

abbrev pub code_of : List Segment → List Range
code_of ss = map memory_range (filter is_executable ss)

-- whether an address is one of a segment's
abbrev pub has_address : Segment → ℕ → Bool
has_address s x = in_range s.address s.memory_len x

-- two of the segments share an address
abbrev pub SomeShare : List Segment → Type 0
SomeShare [] = ⊥
SomeShare (s ∷ ss) = Any (λ t. (x : ℕ) × (has_address s x ≡ true) × (has_address t x ≡ true)) ss ⊎ SomeShare ss

-- the byte at an address: that of the file where a segment has one, else 0
abbrev pub segments_byte : List ℕ → List Segment → ℕ → ℕ
segments_byte file [] x = 0
segments_byte file (s ∷ ss) x =
    if in_range s.address s.file_len x then slice_index file (s.offset + (x - s.address)) else segments_byte file ss x
