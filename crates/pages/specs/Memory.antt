-- Guest memory as a list of bytes: reading and writing numbers, faults, and what a list of stores leaves.
use Rattle.std.specs.Prelude.{◌≡◌, ℕ, zero, suc, ◌+◌, ◌-◌, ◌*◌, ◌/◌, ◌%◌, ◌^◌, ◌<◌, ◌==◌, ◌&&◌, ◌||◌, Bool, true, false, if◌then◌else◌, nat_lt, nat_le, List, [], ◌∷◌, length, All, slice_index, slice_set, Option, Some, None, Result, Ok, Err}
use Rattle.pages.specs.declared.access.Fault.{Fault}
use Rattle.pages.specs.declared.access.Fault.TheVariants.{LoadMisaligned, LoadOutside, StoreMisaligned, StoreOutside, StoreToCode}
use Rattle.pages.specs.declared.access.Range.{Range}
use Rattle.pages.specs.declared.access.Store.{Store}
use Rattle.pages.specs.declared.access.Width.{Width}
use Rattle.pages.specs.declared.access.Width.TheVariants.{W1, W2, W4, W8}

-- guest memory: its bytes from address 0 on, and the ranges that are code
pub record Memory : Type 0 where
  pub bytes : List ℕ
  pub code : List Range

abbrev pub width_bytes : Width → ℕ
width_bytes W1 = 1
width_bytes W2 = 2
width_bytes W4 = 4
width_bytes W8 = 8

-- each byte is below 256
abbrev pub IsBytes : List ℕ → Type 0
IsBytes bs = All (λ b. b < 2 ^ 8) bs

-- the number in n bytes from an address on, least significant first
abbrev pub number_at : List ℕ → ℕ → ℕ → ℕ
number_at bs a zero = 0
number_at bs a (suc n) = slice_index bs a + 2 ^ 8 * number_at bs (a + 1) n

-- the low n bytes of a value, written from an address on
abbrev pub written : List ℕ → ℕ → ℕ → ℕ → List ℕ
written bs a v zero = bs
written bs a v (suc n) = written (slice_set bs a (v % 2 ^ 8)) (a + 1) (v / 2 ^ 8) n

-- the number of an access
abbrev pub value_at : List ℕ → ℕ → Width → ℕ
value_at bs a W1 = number_at bs a 1
value_at bs a W2 = number_at bs a 2
value_at bs a W4 = number_at bs a 4
value_at bs a W8 = number_at bs a 8

-- the bytes after one store
unfoldable pub put : List ℕ → Store → List ℕ
put bs s = written bs s.address s.value (width_bytes s.width)

-- the bytes after a list of stores, the first of them first
abbrev pub after : List ℕ → List Store → List ℕ
after bs [] = bs
after bs (s ∷ ss) = after (put bs s) ss

abbrev pub stored : Memory → List Store → Memory
stored m ss = record m { bytes = after m.bytes ss }

-- whether an address is one of n from another on
abbrev pub in_range : ℕ → ℕ → ℕ → Bool
in_range a n x = nat_le a x && nat_lt x (a + n)

-- whether a store writes the byte at an address, and which byte it writes there
abbrev pub covers : Store → ℕ → Bool
covers s x = in_range s.address (width_bytes s.width) x

abbrev pub byte_of : ℕ → ℕ → ℕ
byte_of v k = v / 2 ^ (8 * k) % 2 ^ 8

abbrev pub byte_put : Store → ℕ → ℕ
byte_put s x = byte_of s.value (x - s.address)

-- the byte that the last covering store of a list writes at an address, or b where no store covers it
abbrev pub last_byte : ℕ → List Store → ℕ → ℕ
last_byte b [] x = b
last_byte b (s ∷ ss) x = last_byte (if covers s x then byte_put s x else b) ss x

-- whether a store of the list covers the address
abbrev pub covered : List Store → ℕ → Bool
covered [] x = false
covered (s ∷ ss) x = covers s x || covered ss x

-- whether an address is code
abbrev pub is_code : List Range → ℕ → Bool
is_code [] x = false
is_code (r ∷ rs) x = in_range r.start r.len x || is_code rs x

-- whether one of n addresses is code, and whether all are
abbrev pub any_code : List Range → ℕ → ℕ → Bool
any_code rs a zero = false
any_code rs a (suc n) = is_code rs a || any_code rs (a + 1) n

abbrev pub all_code : List Range → ℕ → ℕ → Bool
all_code rs a zero = true
all_code rs a (suc n) = is_code rs a && all_code rs (a + 1) n

-- no store of the list touches code
abbrev pub TouchesNoCode : List Range → List Store → Type 0
TouchesNoCode code ss = All (λ (s : Store). any_code code s.address (width_bytes s.width) ≡ false) ss

-- a load: the number there, or its fault; alignment is tested before memory
unfoldable pub loaded : Memory → ℕ → Width → Result ℕ Fault
loaded m a w =
    if a % width_bytes w == 0
    then (if nat_le (a + width_bytes w) (length m.bytes) then Ok (value_at m.bytes a w) else Err LoadOutside)
    else Err LoadMisaligned

-- the fault of a store, if it has one: alignment is tested first, then memory, then code
unfoldable pub store_fault : Memory → ℕ → Width → Option Fault
store_fault m a w =
    if a % width_bytes w == 0
    then (if nat_le (a + width_bytes w) (length m.bytes)
    then (if any_code m.code a (width_bytes w) then Some StoreToCode else None)
    else Some StoreOutside)
    else Some StoreMisaligned

-- the word at an address, if its four bytes lie in memory and in code ranges
unfoldable pub fetched : Memory → ℕ → Option ℕ
fetched m pc = if nat_le (pc + 4) (length m.bytes) && all_code m.code pc 4 then Some (number_at m.bytes pc 4) else None
