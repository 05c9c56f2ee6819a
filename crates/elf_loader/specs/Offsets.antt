-- What has an address, by an ELF64 file's symbol table: the object of a byte, and the function of an instruction.
use Rattle.std.specs.Prelude.{ℕ, zero, suc, ◌+◌, ◌-◌, ◌/◌, ◌==◌, ◌&&◌, Bool, nat_le, nat_lt, if◌then◌else◌, List, [], ◌∷◌, length, drop, Option, Some, None, option_and_then, option_map}
use Rattle.std.specs.List.{list_all}
use Rattle.elf_loader.specs.Symbols.{◌>>=◌, is_of, symbol_at, table_of}
use Rattle.elf_loader.specs.declared.offset.SymbolOffset.{SymbolOffset}
use Rattle.elf_loader.specs.declared.symbol.Symbol.{Symbol}

-- a byte of what a symbol names: the symbol's name, and how far the byte is from the first one
pub record NamedOffset : Type 0 where
  pub name : List ℕ
  pub offset : ℕ

abbrev pub as_offset : SymbolOffset → NamedOffset
as_offset p = record { name = p.name.now; offset = p.offset }

-- a symbol of a type that has an address
abbrev pub has_address : ℕ → ℕ → Symbol → Bool
has_address kind a s = is_of kind s && nat_le s.value a && nat_lt (a - s.value) s.size

-- the first of them among n entries of 24 bytes from an offset on
abbrev pub holder_from : ℕ → List ℕ → ℕ → ℕ → ℕ → Option Symbol
holder_from kind entries a at zero = None
holder_from kind entries a at (suc n) =
    if has_address kind a (symbol_at entries at) then Some (symbol_at entries at) else holder_from kind entries a (at + 24) n

unfoldable pub holder_among : ℕ → List ℕ → ℕ → Option Symbol
holder_among kind entries a = holder_from kind entries a 0 (length entries / 24)

-- the bytes before the first 0, and all of them where there is none
abbrev pub before_zero : List ℕ → List ℕ
before_zero [] = []
before_zero (b ∷ bs) = if b == 0 then [] else b ∷ before_zero bs

abbrev pub offset_in : List ℕ → ℕ → Symbol → NamedOffset
offset_in strings a s = record { name = before_zero (drop s.name strings); offset = a - s.value }

-- the offset of the first symbol of a type that has an address
unfoldable pub offset_of : ℕ → List ℕ → ℕ → Option NamedOffset
offset_of kind file a = do
  table ← table_of file
  option_map (offset_in table.names a) (holder_among kind table.entries a)

-- the object that has the byte at an address
abbrev pub object_offset : List ℕ → ℕ → Option NamedOffset
object_offset file a = offset_of 1 file a

-- ---- functions

-- a character that can be printed, and no blank
abbrev pub is_mark : ℕ → Bool
is_mark b = nat_lt 32 b && nat_lt b 127

-- some of them
abbrev pub is_word : List ℕ → Bool
is_word bs = nat_lt 0 (length bs) && list_all is_mark bs

-- one whose symbol has a name that can be printed
abbrev pub with_word : NamedOffset → Option NamedOffset
with_word p = if is_word p.name then Some p else None

-- the function that has the instruction at an address, where its name can be printed
unfoldable pub function_at : List ℕ → ℕ → Option NamedOffset
function_at file a = option_and_then with_word (offset_of 2 file a)
