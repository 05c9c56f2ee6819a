-- Turns: a hart in a round. They are counted on over the rounds, 2 to the 32nd for each.
use Rattle.std.specs.Prelude.{ℕ, ◌+◌, ◌*◌}

abbrev pub first_turn : ℕ → ℕ
first_turn round = round * 4294967296

abbrev pub turn_of : ℕ → ℕ → ℕ
turn_of round hart = first_turn round + hart
