-- The objects that an ELF64 file's symbol table names (System V gABI, chapters "ELF Header", "Sections", "String Table" and
-- "Symbol Table"), in a file that is little-endian.
use Rattle.std.specs.Prelude.{ℕ, zero, suc, ◌+◌, ◌*◌, ◌/◌, ◌==◌, ◌&&◌, ◌||◌, Bool, false, not, nat_le, nat_lt, if◌then◌else◌, bit_and, List, length, take, drop, slice_index, Option, Some, None, is_some, option_and_then, option_map, unwrap_or}
use Rattle.std.specs.Str.{bytes_eq}
use Rattle.elf_loader.specs.ElfCauses.{has_magic, is_little_64, passes}
use Rattle.elf_loader.specs.Segments.{field}
use Rattle.elf_loader.specs.declared.object.Object.{Object}
use Rattle.elf_loader.specs.declared.section.Section.{Section}
use Rattle.elf_loader.specs.declared.symbol.Symbol.{Symbol}
use Rattle.elf_loader.specs.declared.table.SymbolTable.{SymbolTable}

infixl 10 ◌>>=◌
abbrev pub ◌>>=◌ : {A B : Type 0} → Option A → (A → Option B) → Option B
o >>= f = option_and_then f o

-- ---- sections

-- of the file's header: where the section headers are, the size of one, and how many there are
abbrev pub headers_of : List ℕ → ℕ
headers_of file = field file 40 8

abbrev pub header_size_of : List ℕ → ℕ
header_size_of file = field file 58 2

abbrev pub header_count_of : List ℕ → ℕ
header_count_of file = field file 60 2

-- an ELF64 file, with section headers of 64 bytes each, all in the file
abbrev pub has_sections : List ℕ → Bool
has_sections file =
    nat_le 64 (length file) && has_magic file && is_little_64 file && (header_size_of file == 64)
    && not (passes (length file) (headers_of file) (64 * header_count_of file))

-- the section of the header at an offset: its type, where its bytes are in the file, and the section that it is linked to
abbrev pub section_at : List ℕ → ℕ → Section
section_at file at = record {
  kind = field file (at + 4) 4;
  offset = field file (at + 24) 8;
  size = field file (at + 32) 8;
  link = field file (at + 40) 4;
}

-- the first section of type SHT_SYMTAB, 2, among n headers from an offset on
abbrev pub symbols_from : List ℕ → ℕ → ℕ → Option Section
symbols_from file at zero = None
symbols_from file at (suc n) = if (section_at file at).kind == 2 then Some (section_at file at) else symbols_from file (at + 64) n

abbrev pub symbols_of : List ℕ → Option Section
symbols_of file = symbols_from file (headers_of file) (header_count_of file)

-- the file has sections, and one of them is a symbol table
abbrev pub has_symbol_table : List ℕ → Bool
has_symbol_table file = has_sections file && is_some (symbols_of file)

-- the section of this number, where it is of type SHT_STRTAB, 3
abbrev pub strings_of : List ℕ → ℕ → Option Section
strings_of file k =
    if nat_lt k (header_count_of file) && ((section_at file (headers_of file + 64 * k)).kind == 3)
    then Some (section_at file (headers_of file + 64 * k)) else None

-- a section's bytes, where they are all in the file
abbrev pub bytes_of : List ℕ → Section → Option (List ℕ)
bytes_of file s = if passes (length file) s.offset s.size then None else Some (take s.size (drop s.offset file))

-- the entries of a symbol table, and the strings that their names are among
pub record NamedEntries : Type 0 where
  pub entries : List ℕ
  pub names : List ℕ

abbrev pub as_entries : SymbolTable → NamedEntries
as_entries t = record { entries = t.entries.now; names = t.names.now }

-- the first symbol table, whose section is linked to that of the names
abbrev pub table_in : List ℕ → Option NamedEntries
table_in file = do
  symbols ← symbols_of file
  strings ← strings_of file symbols.link
  entries ← bytes_of file symbols
  names ← bytes_of file strings
  Some (record { entries = entries; names = names })

-- the same: none in what is no such file, nor where a table that is read passes the file's end
unfoldable pub table_of : List ℕ → Option NamedEntries
table_of file = if has_sections file then table_in file else None

-- ---- symbols

-- the symbol of the entry at an offset: where its name is among the strings, its type and binding, its value, and its size
abbrev pub symbol_at : List ℕ → ℕ → Symbol
symbol_at entries at = record {
  name = field entries at 4;
  info = slice_index entries (at + 4);
  value = field entries (at + 8) 8;
  size = field entries (at + 16) 8;
}

-- a symbol of a type, which has some bytes: 1, STT_OBJECT, is that of objects, and 2, STT_FUNC, that of functions
abbrev pub is_of : ℕ → Symbol → Bool
is_of kind s = (bit_and s.info 15 == kind) && nat_lt 0 s.size

-- the string at an offset is this name: its bytes stand there, and then the byte 0 that ends it
abbrev pub is_name : List ℕ → ℕ → List ℕ → Bool
is_name strings at name =
    nat_lt (at + length name) (length strings) && bytes_eq (take (length name) (drop at strings)) name
    && (slice_index strings (at + length name) == 0)

abbrev pub is_named : ℕ → List ℕ → List ℕ → Symbol → Bool
is_named kind strings name s = is_of kind s && is_name strings s.name name

abbrev pub object_at : Symbol → Object
object_at s = record { address = s.value; length = s.size }

-- the first symbol of a type and a name among n entries of 24 bytes from an offset on
abbrev pub object_from : ℕ → List ℕ → List ℕ → List ℕ → ℕ → ℕ → Option Object
object_from kind entries strings name at zero = None
object_from kind entries strings name at (suc n) =
    if is_named kind strings name (symbol_at entries at) then Some (object_at (symbol_at entries at))
    else object_from kind entries strings name (at + 24) n

unfoldable pub object_among : ℕ → List ℕ → List ℕ → List ℕ → Option Object
object_among kind entries strings name = object_from kind entries strings name 0 (length entries / 24)

-- what a type and a name stand for
unfoldable pub named_of : ℕ → List ℕ → List ℕ → Option Object
named_of kind file name = do
  table ← table_of file
  object_among kind table.entries table.names name

-- the object of a name
abbrev pub object_of : List ℕ → List ℕ → Option Object
object_of file name = named_of 1 file name

-- the function of a name
abbrev pub function_of : List ℕ → List ℕ → Option Object
function_of file name = named_of 2 file name

-- ---- other symbols of a name

-- a symbol of a type and a name that is at another address than this one
abbrev pub is_other : ℕ → List ℕ → List ℕ → ℕ → Symbol → Bool
is_other kind strings name address s = is_named kind strings name s && not (s.value == address)

-- one of n entries of 24 bytes from an offset on is such
abbrev pub other_from : ℕ → List ℕ → List ℕ → List ℕ → ℕ → ℕ → ℕ → Bool
other_from kind entries strings name address at zero = false
other_from kind entries strings name address at (suc n) =
    is_other kind strings name address (symbol_at entries at) || other_from kind entries strings name address (at + 24) n

unfoldable pub other_among : ℕ → List ℕ → List ℕ → List ℕ → ℕ → Bool
other_among kind entries strings name address = other_from kind entries strings name address 0 (length entries / 24)

-- a type and a name stand for another address than this one, too: false where there is no table
unfoldable pub has_other : ℕ → List ℕ → List ℕ → ℕ → Bool
has_other kind file name address = unwrap_or (option_map (λ table. other_among kind table.entries table.names name address) (table_of file)) false

-- there is an object of the name at another address
abbrev pub has_other_object : List ℕ → List ℕ → ℕ → Bool
has_other_object file name address = has_other 1 file name address

-- there is a function of the name at another address
abbrev pub has_other_function : List ℕ → List ℕ → ℕ → Bool
has_other_function file name address = has_other 2 file name address
