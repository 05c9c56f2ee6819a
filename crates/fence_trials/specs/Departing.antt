-- What departs from the order of the harts' programs.
use Rattle.std.specs.Prelude.{◌≡◌, []}
use Rattle.fence_trials.specs.declared.departing.Departing.{Departing}
use Rattle.fence_trials.specs.declared.departing.Departing.TheVariants.{Drawn, Listed}

-- nothing does
abbrev pub AreNone : Departing → Type 0
AreNone Drawn = ⊥
AreNone (Listed departures) = departures.now ≡ []
