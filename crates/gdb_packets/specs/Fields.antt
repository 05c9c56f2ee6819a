-- The fields of a packet's payload that requests have in common.
use Rattle.std.specs.Prelude.{ℕ, ◌*◌, ◌+◌, ◌/◌, ◌%◌, ◌^◌, ◌-◌, ◌==◌, ◌&&◌, nat_le, nat_lt, if◌then◌else◌, List, [], ◌∷◌, codes, slice_index, Option, Some, None}
use Rattle.hex.specs.Hex.{hex_digit_value, lower_digits}
use Rattle.gdb_packets.specs.declared.request.Request.{Request}
use Rattle.gdb_packets.specs.declared.request.Request.TheVariants as requests

-- what stands behind a word, where the text begins with it
abbrev pub behind : List ℕ → List ℕ → Option (List ℕ)
behind [] bs = Some bs
behind (w ∷ ws) [] = None
behind (w ∷ ws) (b ∷ bs) = if w == b then behind ws bs else None

-- what stands behind a word that is spelled in two hexadecimal digits a byte, as gdb sends names and commands
abbrev pub digits_of : ℕ → List ℕ
digits_of byte = slice_index lower_digits (byte / 16) ∷ slice_index lower_digits (byte % 16) ∷ []

abbrev pub and_then : Option (List ℕ) → (List ℕ → Option (List ℕ)) → Option (List ℕ)
and_then None f = None
and_then (Some bs) f = f bs

unfoldable pub behind_spelled : List ℕ → List ℕ → Option (List ℕ)
behind_spelled [] bs = Some bs
behind_spelled (w ∷ ws) bs = and_then (behind (digits_of w) bs) (λ rest. behind_spelled ws rest)

-- the number whose hexadecimal digits are those before, which are n, and the first ones of the text; and what follows it. A number of more than 64
-- bits is none
abbrev pub by_digit : Option ℕ → ℕ → List ℕ → (ℕ → Option (ℕ × List ℕ)) → Option (ℕ × List ℕ)
by_digit None n bs f = Some (n, bs)
by_digit (Some v) n bs f = if nat_lt n (2 ^ 60) then f (n * 16 + v) else None

unfoldable pub number_from : ℕ → List ℕ → Option (ℕ × List ℕ)
number_from n [] = Some (n, [])
number_from n (b ∷ bs) = by_digit (hex_digit_value b) n (b ∷ bs) (λ k. number_from k bs)

-- a number in decimal digits that are spelled in that way, 30 to 39: of which the value is n so far, and what follows it. It has one digit at least, and
-- one of more than 64 bits is none
abbrev pub spelled_digit : ℕ → ℕ → Option ℕ
spelled_digit high low = if high == 51 && (nat_le 48 low && nat_le low 57) then Some (low - 48) else None

abbrev pub by_spelled : Option ℕ → ℕ → List ℕ → (ℕ → Option (ℕ × List ℕ)) → Option (ℕ × List ℕ)
by_spelled None n bs f = Some (n, bs)
by_spelled (Some v) n bs f = if nat_lt n (2 ^ 60) then f (n * 10 + v) else None

unfoldable pub spelled_from : ℕ → List ℕ → Option (ℕ × List ℕ)
spelled_from n [] = Some (n, [])
spelled_from n (high ∷ []) = Some (n, high ∷ [])
spelled_from n (high ∷ low ∷ bs) = by_spelled (spelled_digit high low) n (high ∷ low ∷ bs) (λ k. spelled_from k bs)

abbrev pub from_digit : Option ℕ → List ℕ → Option (ℕ × List ℕ)
from_digit None bs = None
from_digit (Some v) bs = spelled_from v bs

abbrev pub spelled_number : List ℕ → Option (ℕ × List ℕ)
spelled_number [] = None
spelled_number (high ∷ []) = None
spelled_number (high ∷ low ∷ bs) = from_digit (spelled_digit high low) bs

-- two numbers with a comma between them; what follows says no more
abbrev pub with_first : ℕ → Option (ℕ × List ℕ) → Option (ℕ × ℕ)
with_first a None = None
with_first a (Some x) = Some (a, x.0)

abbrev pub after_comma : ℕ → Option (List ℕ) → Option (ℕ × ℕ)
after_comma a None = None
after_comma a (Some bs) = with_first a (number_from 0 bs)

abbrev pub after_first : Option (ℕ × List ℕ) → Option (ℕ × ℕ)
after_first None = None
after_first (Some x) = after_comma x.0 (behind (codes ",") x.1)

abbrev pub two_numbers : List ℕ → Option (ℕ × ℕ)
two_numbers bs = after_first (number_from 0 bs)

-- three numbers with commas between them
abbrev pub with_two : ℕ → Option (ℕ × ℕ) → Option (ℕ × ℕ × ℕ)
with_two a None = None
with_two a (Some x) = Some (a, x.0, x.1)

abbrev pub two_behind : ℕ → Option (List ℕ) → Option (ℕ × ℕ × ℕ)
two_behind a None = None
two_behind a (Some bs) = with_two a (two_numbers bs)

abbrev pub three_by : Option (ℕ × List ℕ) → Option (ℕ × ℕ × ℕ)
three_by None = None
three_by (Some x) = two_behind x.0 (behind (codes ",") x.1)

abbrev pub three_numbers : List ℕ → Option (ℕ × ℕ × ℕ)
three_numbers bs = three_by (number_from 0 bs)

-- one thread, from 1 on; none where any will do: `0`, `-1`, or no number
abbrev pub nonzero : Option (ℕ × List ℕ) → Option ℕ
nonzero None = None
nonzero (Some x) = if x.0 == 0 then None else Some x.0

abbrev pub thread_of : List ℕ → Option ℕ
thread_of bs = nonzero (number_from 0 bs)

-- ---- requests by their fields

-- by two numbers, of which there may be none
abbrev pub by_two : (ℕ → ℕ → Request) → Option (ℕ × ℕ) → Request
by_two f None = requests.Unknown
by_two f (Some x) = f x.0 x.1

-- by three
abbrev pub by_three : (ℕ → ℕ → ℕ → Request) → Option (ℕ × ℕ × ℕ) → Request
by_three f None = requests.Unknown
by_three f (Some x) = f x.0 x.1 x.2

-- by one thread
abbrev pub by_thread : (ℕ → Request) → Option ℕ → Request
by_thread f None = requests.Unknown
by_thread f (Some t) = f t

-- what stands behind a word, or else something else
abbrev pub or_else : Option (List ℕ) → (List ℕ → Request) → Request → Request
or_else None f other = other
or_else (Some bs) f other = f bs

-- a word with nothing behind it
abbrev pub alone : Request → List ℕ → Request
alone r [] = r
alone r (b ∷ bs) = requests.Unknown

-- something by a number, which is mostly an address; what follows the number says no more
abbrev pub by_address : (ℕ → Request) → Option (ℕ × List ℕ) → Request
by_address f None = requests.Unknown
by_address f (Some x) = f x.0
