-- The fences that are assumed: the words that a line has for them, and what is wrong with one that names none.
use Rattle.std.specs.Prelude.{◌≡◌, ◌≢◌, ◌⊎◌, ℕ, ◌+◌, ◌-◌, ◌%◌, ◌^◌, ◌==◌, ◌&&◌, nat_le, nat_lt, Bool, true, false, if◌then◌else◌, List, [], ◌∷◌, ◌++◌, codes, length, min, Option, Some, None, Result, Ok, Err, string_bytes}
use Rattle.std.specs.Char.{is_ascii_hexdigit}
use Rattle.std.specs.List.{list_all, list_any}
use Rattle.std.specs.Str.{bytes_eq}
use Rattle.command_line.specs.Reading.{address_in, number_in}
use Rattle.elf_loader.specs.Symbols.{function_of, has_other_function, has_symbol_table}
use Rattle.elf_loader.specs.declared.object.Object.{Object}
use Rattle.program_files.specs.declared.failure.CommandFailure.{CommandFailure}
use Rattle.program_files.specs.declared.failure.CommandFailure.TheVariants as failures
use Rattle.program_files.specs.Failures.{out_of_memory}
use Rattle.program_files.specs.declared.reasons.Misplaced.{Misplaced}
use Rattle.program_files.specs.declared.reasons.Misplaced.TheVariants.{Beyond, NoFunction, NoKind, NoSymbols, NotCode, Several, Unreadable}
use Rattle.host_io.specs.declared.load_error.LoadError.{LoadError as ImageCause}
use Rattle.hunter.specs.Hunts.{IsImageCause, hunt_fault}
use Rattle.hunter.specs.declared.settings.HuntSettings.{HuntSettings}
use Rattle.round_planner.specs.Settings.{image_of}
use Rattle.pages.specs.declared.access.Range.{Range}
use Rattle.rv64_decode.specs.declared.ordering.FenceSet.{FenceSet}
use Rattle.timed_machine.specs.declared.assumed.AssumedFence.{AssumedFence}

-- ---- addresses

-- the 16 digits of an address, as a table prints it
abbrev pub printed_pc : List ℕ → Option ℕ
printed_pc word = if (length word == 16) && list_all is_ascii_hexdigit word then number_in 64 16 word else None

abbrev pub readable : Option ℕ → Result ℕ Misplaced
readable (Some pc) = Ok pc
readable None = Err Unreadable

abbrev pub first_or : Option ℕ → Option ℕ → Option ℕ
first_or (Some pc) other = Some pc
first_or None other = other

-- such an address, or one in another way
abbrev pub address_of : List ℕ → Result ℕ Misplaced
address_of word = readable (first_or (printed_pc word) (address_in word))

-- ---- places in functions

-- the address that is so many bytes behind the first one of a function; whether there are several of its name, at different addresses
abbrev pub behind : ℕ → Object → Bool → Result ℕ Misplaced
behind offset function true = Err Several
behind offset function false = if nat_lt offset function.length then Ok (min (function.address + offset) (2 ^ 64 - 1)) else Err Beyond

-- the same of the function that a file has of a name, if it has one
abbrev pub behind_named : List ℕ → List ℕ → ℕ → Option Object → Result ℕ Misplaced
behind_named file name offset None = Err NoFunction
behind_named file name offset (Some function) = behind offset function (has_other_function file name function.address)

abbrev pub place_by : List ℕ → List ℕ → Option ℕ → Bool → Result ℕ Misplaced
place_by file name None symbols = Err Unreadable
place_by file name (Some offset) false = Err NoSymbols
place_by file name (Some offset) true = behind_named file name offset (function_of file name)

-- the address that is as many bytes as the digits say behind the first one of the function of a name
abbrev pub place_in : List ℕ → List ℕ → List ℕ → Result ℕ Misplaced
place_in file name digits = place_by file name (number_in 64 16 digits) (has_symbol_table file)

-- ---- words

-- the word has this mark between two parts; or it hasn't the mark
abbrev pub IsParted : List ℕ → List ℕ → Option (List ℕ × List ℕ) → Type 0
IsParted mark word None = (xs ys : List ℕ) → word ≢ xs ++ (mark ++ ys)
IsParted mark word (Some parts) = word ≡ parts.0 ++ (mark ++ parts.1)

abbrev pub named_by : List ℕ → List ℕ → Option (List ℕ × List ℕ) → Result ℕ Misplaced
named_by file word None = address_of word
named_by file word (Some parts) = place_in file parts.0 parts.1

-- the address that the word names, or why it names none: a function, `+0x` and digits, or else an address
abbrev pub IsNamed : List ℕ → List ℕ → Result ℕ Misplaced → Type 0
IsNamed file word named = (parts : Option (List ℕ × List ℕ)) × IsParted (codes "+0x") word parts × (named ≡ named_by file word parts)

-- ---- code

abbrev pub has_address : ℕ → Range → Bool
has_address address range = nat_le range.start address && nat_lt (address - range.start) range.len

-- there is an instruction at the address: it is a multiple of 4, and a range of code has it
abbrev pub is_instruction : List Range → ℕ → Bool
is_instruction code pc = (pc % 4 == 0) && list_any (has_address pc) code

abbrev pub on_code : List Range → Result ℕ Misplaced → Result ℕ Misplaced
on_code code (Ok pc) = if is_instruction code pc then Ok pc else Err NotCode
on_code code (Err why) = Err why

-- the address of the instruction that the word names, or why it names none
abbrev pub IsInstruction : List ℕ → List Range → List ℕ → Result ℕ Misplaced → Type 0
IsInstruction file code word found = (named : Result ℕ Misplaced) × IsNamed file word named × (found ≡ on_code code named)

-- ---- kinds of fences

-- the loads and stores on one side of a fence, as assemblers write them
abbrev pub set_of : List ℕ → Option FenceSet
set_of word =
    if bytes_eq word (codes "r") then Some (record { reads = true; writes = false })
    else if bytes_eq word (codes "w") then Some (record { reads = false; writes = true })
    else if bytes_eq word (codes "rw") then Some (record { reads = true; writes = true })
    else None

-- a fence before an instruction that keeps these in order, if they are named
abbrev pub between : Result ℕ Misplaced → Option FenceSet → Option FenceSet → Result AssumedFence Misplaced
between (Err why) before after = Err why
between (Ok pc) (Some before) (Some after) = Ok (record { pc = pc; before = before; after = after })
between (Ok pc) (Some before) None = Err NoKind
between (Ok pc) None after = Err NoKind

-- one that keeps all in order
abbrev pub full_before : Result ℕ Misplaced → Result AssumedFence Misplaced
full_before (Ok pc) = Ok (record { pc = pc; before = record { reads = true; writes = true }; after = record { reads = true; writes = true } })
full_before (Err why) = Err why

-- one with these sides, if there are two
abbrev pub fence_by : Option (List ℕ × List ℕ) → Result ℕ Misplaced → Result AssumedFence Misplaced
fence_by None place = between place None None
fence_by (Some sides) place = between place (set_of sides.0) (set_of sides.1)

-- one of the kind that a word is: what it keeps before it, a comma, and what it keeps behind it
abbrev pub IsOfKind : List ℕ → Result ℕ Misplaced → Result AssumedFence Misplaced → Type 0
IsOfKind kind place fence = (sides : Option (List ℕ × List ℕ)) × IsParted (codes ",") kind sides × (fence ≡ fence_by sides place)

-- one of such a kind, before the instruction that another word names
abbrev pub IsFenceAt : List ℕ → List Range → List ℕ → List ℕ → Result AssumedFence Misplaced → Type 0
IsFenceAt file code word kind fence = (place : Result ℕ Misplaced) × IsInstruction file code word place × IsOfKind kind place fence

-- the fence that a word without `=` names, and one with it: an instruction, and its kind
abbrev pub IsFenceBy : List ℕ → List Range → List ℕ → Option (List ℕ × List ℕ) → Result AssumedFence Misplaced → Type 0
IsFenceBy file code word None fence = (place : Result ℕ Misplaced) × IsInstruction file code word place × (fence ≡ full_before place)
IsFenceBy file code word (Some parts) fence = IsFenceAt file code parts.0 parts.1 fence

-- the fence that the word names, or why it names none
abbrev pub IsFence : List ℕ → List Range → List ℕ → Result AssumedFence Misplaced → Type 0
IsFence file code word fence = (parts : Option (List ℕ × List ℕ)) × IsParted (codes "=") word parts × IsFenceBy file code word parts fence

-- ---- several

-- the words name these fences, behind those that were there before
abbrev pub AreFences : List ℕ → List Range → List (List ℕ) → List AssumedFence → List AssumedFence → Type 0
AreFences file code [] before fences = fences ≡ before
AreFences file code (word ∷ words) before fences =
    (fence : AssumedFence) × IsFence file code word (Ok fence) × AreFences file code words (before ++ fence ∷ []) fences

-- of the words this is the first that names none, for this reason
abbrev pub IsFirstMisplaced : List ℕ → List Range → List (List ℕ) → List ℕ → Misplaced → Type 0
IsFirstMisplaced file code [] word why = ⊥
IsFirstMisplaced file code (first ∷ words) word why =
    ((word ≡ first) × IsFence file code first (Err why))
    ⊎ (((fence : AssumedFence) × IsFence file code first (Ok fence)) × IsFirstMisplaced file code words word why)

-- the failure tells this word and this reason
abbrev pub TellsPlace : List ℕ → Misplaced → CommandFailure → Type 0
TellsPlace word why (failures.NoPlace text reason) = (string_bytes text ≡ word) × (reason ≡ why)
TellsPlace word why _ = ⊥

abbrev pub IsNoPlace : List ℕ → Misplaced → CommandFailure → Type 0
IsNoPlace word why failure = (failure ≡ out_of_memory) ⊎ TellsPlace word why failure

-- one of the words names none, or memory was refused
abbrev pub IsMisplaced : List ℕ → List Range → List (List ℕ) → CommandFailure → Type 0
IsMisplaced file code words failure =
    (failure ≡ out_of_memory)
    ⊎ ((word : List ℕ) × (why : Misplaced) × IsFirstMisplaced file code words word why × TellsPlace word why failure)

-- ---- the image

-- nothing speaks against the settings, nor against the image
pub record IsTaken (s : HuntSettings) (file : List ℕ) : Type 0 where
  pub settings : hunt_fault s ≡ None
  pub image : (cause : ImageCause) → IsImageCause s file cause → ⊥

-- the words name these fences in the image. Where it is refused, or the settings are, nothing is said
abbrev pub IsAssumed : List (List ℕ) → HuntSettings → List ℕ → List AssumedFence → Type 0
IsAssumed words s file fences = IsTaken s file → AreFences file (image_of s.format file s.pages).code words [] fences

-- one of the words names none, where the settings and the image are taken, or memory was refused
abbrev pub IsUnplaced : List (List ℕ) → HuntSettings → List ℕ → CommandFailure → Type 0
IsUnplaced words s file failure =
    (failure ≡ out_of_memory) ⊎ (IsTaken s file × IsMisplaced file (image_of s.format file s.pages).code words failure)
