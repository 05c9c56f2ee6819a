-- Which doublewords a list says to be a hart's own.
use Rattle.std.specs.Prelude.{ℕ, ◌==◌, ◌&&◌, Bool, List}
use Rattle.std.specs.List.{list_any}
use Rattle.own_moves.specs.declared.owned.OwnDoubleword.{OwnDoubleword}

abbrev pub owns_of : List OwnDoubleword → ℕ → ℕ → Bool
owns_of os h d = list_any (λ (o : OwnDoubleword). (o.hart == h) && (o.number == d)) os
