-- The numbers of refusals of a weak hunt, as the program prints them.
use Rattle.std.specs.Prelude.{ℕ}
use Rattle.hunter.specs.Refusals.{hunt_number}
use Rattle.weak_hunter.specs.declared.error.WeakHuntError.{WeakHuntError}
use Rattle.weak_hunter.specs.declared.error.WeakHuntError.TheVariants.{Hunt, Unconfirmed}

abbrev pub weak_hunt_number : WeakHuntError → ℕ
weak_hunt_number (Hunt e) = hunt_number e
weak_hunt_number (Unconfirmed n) = 87
