-- What a store buffer keeps true of its lines.
use Rattle.std.specs.Prelude.{ℕ, ◌+◌, ◌^◌, ◌<◌, ◌≤◌, List, [], ◌∷◌, All}
use Rattle.std.specs.Map.{keys_of}
use Rattle.store_buffer.specs.declared.line.Line.{Line}

-- the numbers of these lines are those of addresses of 64 bits
abbrev pub AllNear : List (ℕ × Line) → Type 0
AllNear es = All (λ k. k < 2 ^ 58) (keys_of es)

-- the numbers of the lines rise from one on
abbrev pub RisingLines : ℕ → List (ℕ × Line) → Type 0
RisingLines low [] = Unit {0}
RisingLines low (e ∷ es) = (low ≤ e.0) × RisingLines (e.0 + 1) es

-- the lines in rising order, with numbers of addresses of 64 bits
pub record Held (lines : List (ℕ × Line)) : Type 0 where
  pub rising : RisingLines 0 lines
  pub near : AllNear lines
