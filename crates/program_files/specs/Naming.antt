-- The bytes of guest memory that a line names: by their addresses, or as objects of the image's symbol table.
use Rattle.std.specs.Prelude.{◌≡◌, ℕ, ◌+◌, ◌-◌, ◌*◌, ◌^◌, ◌||◌, min, nat_lt, Bool, true, false, List, [], ◌∷◌, ◌++◌, drop, length, map, take, Option, Some, None, is_some, if◌then◌else◌, string_bytes}
use Rattle.std.specs.List.{list_any}
use Rattle.command_line.specs.declared.settings.Bytes.{Bytes}
use Rattle.elf_loader.specs.Symbols.{has_other_object, has_symbol_table, object_of}
use Rattle.elf_loader.specs.declared.object.Object.{Object}
use Rattle.hunt_table.specs.Names.{name_of}
use Rattle.hunt_table.specs.declared.seen_range.SeenRange.{SeenRange}
use Rattle.program_files.specs.declared.fault.NamingFault.{NamingFault}
use Rattle.program_files.specs.declared.fault.NamingFault.TheVariants.{NoObject, NoSymbols, Outside, Several}

-- ---- objects

-- an object, where the image has no other one of this name at another address
abbrev pub without_other : List ℕ → List ℕ → Option Object → Option Object
without_other image name None = None
without_other image name (Some o) = if has_other_object image name o.address then None else Some o

-- the object that a name stands for: none where the image has none, and where it has several, at different addresses
unfoldable pub one_object : List ℕ → List ℕ → Option Object
one_object image name = without_other image name (object_of image name)

-- ---- bytes

-- the bytes of an object, if there is one, before others
abbrev pub with_object : Option Object → List Bytes → List Bytes
with_object None bytes = bytes
with_object (Some o) bytes = record { address = o.address; length = o.length; is_decimal = false } ∷ bytes

-- the bytes of the image's objects of these names, as far as each stands for one
abbrev pub objects_in : List ℕ → List (List ℕ) → List Bytes
objects_in image [] = []
objects_in image (name ∷ names) = with_object (one_object image name) (objects_in image names)

-- the first of the names that the image has no object of, or several
abbrev pub first_missing : List ℕ → List (List ℕ) → Option (List ℕ)
first_missing image [] = None
first_missing image (name ∷ names) = if is_some (one_object image name) then first_missing image names else Some name

-- the bytes that are named: by their addresses, and then by the names of objects
abbrev pub named_in : List ℕ → List Bytes → List (List ℕ) → List Bytes
named_in image seen names = seen ++ objects_in image names

-- ---- faults

-- there are no such bytes, or memory of so many pages hasn't all of them
abbrev pub is_outside : ℕ → Bytes → Bool
is_outside pages b = nat_lt b.length 1 || nat_lt (4096 * pages) (b.address + b.length)

-- some of the bytes that are named are such
abbrev pub names_outside : List ℕ → ℕ → List Bytes → List (List ℕ) → Bool
names_outside image pages seen names = list_any (is_outside pages) (named_in image seen names)

-- why a name stands for no one object: the symbol table has none, or some and so several, or there is no symbol table
abbrev pub IsNoObject : List ℕ → List ℕ → NamingFault → Type 0
IsNoObject image name Outside = ⊥
IsNoObject image name (NoObject text others) = (has_symbol_table image ≡ true) × (object_of image name ≡ None) × (string_bytes text ≡ name)
IsNoObject image name (Several text) = (is_some (object_of image name) ≡ true) × (string_bytes text ≡ name)
IsNoObject image name (NoSymbols text) = (has_symbol_table image ≡ false) × (string_bytes text ≡ name)

-- the fault of a first name of no one object, if there is such a name
abbrev pub IsMissing : List ℕ → Option (List ℕ) → Option NamingFault → Type 0
IsMissing image None None = Unit {0}
IsMissing image None (Some fault) = ⊥
IsMissing image (Some name) None = ⊥
IsMissing image (Some name) (Some fault) = IsNoObject image name fault

-- why the bytes can't be looked at, if they can't be: some are outside, or else a name is that of no one object
abbrev pub IsFaultOf : Bool → List ℕ → Option (List ℕ) → Option NamingFault → Type 0
IsFaultOf true image missing fault = fault ≡ Some Outside
IsFaultOf false image missing fault = IsMissing image missing fault

-- the same of what a line names
abbrev pub IsNaming : List ℕ → ℕ → List Bytes → List (List ℕ) → Option NamingFault → Type 0
IsNaming image pages seen names fault = IsFaultOf (names_outside image pages seen names) image (first_missing image names) fault

abbrev pub naming_number : NamingFault → ℕ
naming_number Outside = 74
naming_number (NoObject name others) = 75
naming_number (Several name) = 75
naming_number (NoSymbols name) = 75

-- ---- ranges

-- a number, and the greatest of 32 bits where it has more
abbrev pub in_32_bits : ℕ → ℕ
in_32_bits n = min n (2 ^ 32 - 1)

-- bytes as a range that is looked at when a run ends, with its name where it has one
abbrev pub seen_range : Bytes → Option (List ℕ) → SeenRange
seen_range b name = record { address = in_32_bits b.address; length = in_32_bits b.length; name = name }

-- bytes that were named by their address
abbrev pub by_address : Bytes → SeenRange
by_address b = seen_range b None

-- those of objects; one whose name has a character that stands in no name of a table has none there
abbrev pub by_name : List Bytes → List (List ℕ) → List SeenRange
by_name [] names = []
by_name (b ∷ bs) [] = []
by_name (b ∷ bs) (name ∷ names) = seen_range b (name_of name) ∷ by_name bs names

-- the ranges of bytes of which the last are those of objects
abbrev pub seen_ranges : List Bytes → List (List ℕ) → List SeenRange
seen_ranges named names =
    let unnamed = length named - length names in
    map by_address (take unnamed named) ++ by_name (drop unnamed named) names
