-- How long a number's decimal digits are.
use Rattle.std.proofs.Common.{ℕ, ◌^◌, ◌≤◌, ◌<◌, length, arith}
use Rattle.std.specs.Fmt.{decimal}
use Rattle.std.proofs.lemmas.Fmt.{length-decimal-le}

pub at_most_20_digits : (n : ℕ) → n < 2 ^ 64 → length (decimal n) ≤ 20
at_most_20_digits n fits = length-decimal-le 20 n (omega arith) (omega arith) fits
