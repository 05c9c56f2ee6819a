-- Where a walk over a hart's part of the parallel phase stops.
use Rattle.std.specs.Prelude.{ℕ, Bool, List, ◌==◌}
use Rattle.std.specs.List.{list_any}

-- whether the address of an instruction is one of these
abbrev pub is_one_of : List ℕ → ℕ → Bool
is_one_of stops pc = list_any (λ x. x == pc) stops
