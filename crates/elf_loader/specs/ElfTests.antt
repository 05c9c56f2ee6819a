-- The tests of an ELF file one after another, for the functions that make them.
use Rattle.std.specs.Prelude.{◌≡◌, ℕ, ◌+◌, ◌==◌, ◌&&◌, ◌||◌, Bool, false, nat_lt, not, if◌then◌else◌, List, [], ◌∷◌, length, take, drop, Result, Ok, Err}
use Rattle.std.specs.List.{list_any}
use Rattle.elf_loader.specs.ElfCauses.{has_magic, has_table, is_little_64, is_past_file, is_past_memory, is_writable_code}
use Rattle.pages.specs.declared.access.Piece.{Piece}
use Rattle.elf_loader.specs.Segments.{machine_of, type_of}
use Rattle.host_io.specs.declared.load_error.LoadError.{LoadError}
use Rattle.host_io.specs.declared.load_error.LoadError.TheVariants as causes
use Rattle.elf_loader.specs.declared.segment.Segment.{Segment}

-- the first test that is true tells the cause
abbrev pub first_true : List (Bool × LoadError) → Result (Unit {0}) LoadError
first_true [] = Ok tt
first_true (t ∷ ts) = if t.0 then Err t.1 else first_true ts

abbrev pub header_tests : List ℕ → List (Bool × LoadError)
header_tests file =
    (nat_lt (length file) 64, causes.TooShort) ∷ (not (has_magic file), causes.Magic) ∷ (not (is_little_64 file), causes.Class)
    ∷ (not (type_of file == 2), causes.Type) ∷ (not (machine_of file == 243), causes.Machine) ∷ (not (has_table file), causes.HeaderTable) ∷ []

-- whether two segments share an address, each of them having one
abbrev pub shares : Segment → Segment → Bool
shares s t = nat_lt 0 s.memory_len && nat_lt 0 t.memory_len && nat_lt s.address (t.address + t.memory_len) && nat_lt t.address (s.address + s.memory_len)

abbrev pub has_overlap : List Segment → Bool
has_overlap [] = false
has_overlap (s ∷ ss) = list_any (shares s) ss || has_overlap ss

abbrev pub segment_tests : ℕ → ℕ → List Segment → List (Bool × LoadError)
segment_tests file memory ss =
    (list_any (is_past_file file) ss, causes.SegmentPastFile) ∷ (list_any (is_past_memory memory) ss, causes.PastMemory)
    ∷ (has_overlap ss, causes.SharedAddress) ∷ (list_any is_writable_code ss, causes.WritableCode) ∷ []

-- the pieces hold the bytes of the file's segments, each at its segment's address
abbrev pub ArePieces : List ℕ → List Segment → List Piece → Type 0
ArePieces file [] [] = Unit {0}
ArePieces file [] (p ∷ ps) = ⊥
ArePieces file (s ∷ ss) [] = ⊥
ArePieces file (s ∷ ss) (p ∷ ps) = (p.start ≡ s.address) × (p.bytes.items ≡ take s.file_len (drop s.offset file)) × ArePieces file ss ps
