-- The numbers of refusals of a hunt, as the program prints them.
use Rattle.std.specs.Prelude.{ℕ}
use Rattle.host_io.specs.RunErrors.{number_of}
use Rattle.hunter.specs.declared.error.HuntError.{HuntError}
use Rattle.hunter.specs.declared.error.HuntError.TheVariants.{Run, PlansOutOfRange, SeenOutside}

abbrev pub hunt_number : HuntError → ℕ
hunt_number (Run e) = number_of e
hunt_number PlansOutOfRange = 73
hunt_number SeenOutside = 74
