-- The numbers of the generator SplitMix64: one for each index of the stream of a seed.
use Rattle.std.specs.Prelude.{ℕ, ◌+◌, ◌*◌, ◌/◌, ◌%◌, ◌^◌, bit_xor}

-- a number with its high bits folded into the low ones, times a factor
abbrev pub folded : ℕ → ℕ → ℕ → ℕ
folded z k m = bit_xor z (z / 2 ^ k) * m % 2 ^ 64

-- both foldings, and a last one that multiplies by nothing
abbrev pub mixed : ℕ → ℕ
mixed z = let y = folded (folded z 30 13787848793156543929) 27 10723151780598845931 in bit_xor y (y / 2 ^ 31)

-- the number at a index, counted from 0
unfoldable pub draw : ℕ → ℕ → ℕ
draw seed index = mixed ((seed + (index + 1) * 11400714819323198485) % 2 ^ 64)
