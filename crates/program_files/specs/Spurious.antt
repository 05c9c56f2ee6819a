-- Waits for a condition that return without a signal: the guest program that is run is the file's, but that its object `dethart_spurious`
-- holds 1.
use Rattle.std.specs.Prelude.{◌≡◌, ℕ, zero, suc, ◌+◌, ◌-◌, ◌==◌, ◌&&◌, Bool, nat_le, nat_lt, if◌then◌else◌, List, length, slice_set, Option, Some, None, option_and_then, codes}
use Rattle.elf_loader.specs.ElfCauses.{has_table}
use Rattle.elf_loader.specs.Segments.{header_count_of, kind_at, segment_at, table_of}
use Rattle.elf_loader.specs.declared.object.Object.{Object}
use Rattle.pages.specs.Memory.{in_range}
use Rattle.program_files.specs.Naming.{one_object}

-- ---- places in an ELF file

-- where the file has the byte of an address by the program header at an offset: one of a segment that is loaded and has it in the file
abbrev pub place_at : List ℕ → ℕ → ℕ → Option ℕ
place_at file at x =
    let s = segment_at file at in
    let place = s.offset + (x - s.address) in
    if (kind_at file at == 1) && in_range s.address s.file_len x && nat_lt place (length file) then Some place else None

abbrev pub or_later : Option ℕ → Option ℕ → Option ℕ
or_later None later = later
or_later (Some place) later = Some place

-- by the first of n program headers from an offset on of which one has it
abbrev pub place_from : List ℕ → ℕ → ℕ → ℕ → Option ℕ
place_from file x at zero = None
place_from file x at (suc n) = or_later (place_at file at x) (place_from file x (at + 56) n)

-- the file has all of its program headers
abbrev pub has_headers : List ℕ → Bool
has_headers file = nat_le 64 (length file) && has_table file

-- where an ELF file has the byte of an address of guest memory
unfoldable pub place_of : List ℕ → ℕ → Option ℕ
place_of file x = if has_headers file then place_from file x (table_of file) (header_count_of file) else None

-- ---- the object

-- where the file of an image has the first byte of the object
abbrev pub spurious_place : List ℕ → Option ℕ
spurious_place image = option_and_then (λ (o : Object). place_of image o.address) (one_object image (codes "dethart_spurious"))

-- the image is that of the file, but for this byte
pub record AllowsSpurious (file image : List ℕ) : Type 0 where
  pub place : ℕ
  pub is_place : spurious_place file ≡ Some place
  pub is_image : image ≡ slice_set file place 1
