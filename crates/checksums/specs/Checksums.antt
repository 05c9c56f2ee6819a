-- The CRC-32 by which gdb compares memory with a file: the remainder by x^32 + x^26 + x^23 + x^22 + x^16 + x^12 + x^11 + x^10 + x^8 + x^7 + x^5 + x^4 + x^2
-- + x + 1. The highest bit of each byte comes first, the remainder begins with all ones, and at the end nothing is done to it.
use Rattle.std.specs.Prelude.{ℕ, zero, suc, ◌-◌, ◌*◌, ◌^◌, nat_lt, if◌then◌else◌, List, bit_xor}
use Rattle.std.specs.List.{fold}

-- a polynomial of 32 bits times x: where x^32 comes out, it is the polynomial's other powers
abbrev pub times_x : ℕ → ℕ
times_x r = if nat_lt r (2 ^ 31) then r * 2 else bit_xor ((r - 2 ^ 31) * 2) 0x04c11db7

-- times x^n
unfoldable pub times_x_to : ℕ → ℕ → ℕ
times_x_to zero r = r
times_x_to (suc n) r = times_x (times_x_to n r)

abbrev pub with_byte : ℕ → ℕ → ℕ
with_byte r b = times_x_to 8 (bit_xor r (b * 2 ^ 24))

abbrev pub checksum_of : List ℕ → ℕ
checksum_of bs = fold with_byte 0xffffffff bs
