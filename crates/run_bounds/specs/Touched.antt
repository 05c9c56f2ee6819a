-- What is kept of the bytes that a hart has touched.
use Rattle.std.specs.Prelude.{ℕ, ◌==◌, if◌then◌else◌, List, [], ◌∷◌, None}
use Rattle.run_bounds.specs.declared.touched.TouchedByte.{TouchedByte}

abbrev pub untouched : ℕ → TouchedByte
untouched x = record { address = x; touched = 0; seen = 0; own = None }

-- what is kept of the byte at an address
abbrev pub known_at : List TouchedByte → ℕ → TouchedByte
known_at [] x = untouched x
known_at (b ∷ bs) x = if b.address == x then b else known_at bs x
