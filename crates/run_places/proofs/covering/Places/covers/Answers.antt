use Rattle.std.proofs.Common.{List, subst}
use Rattle.list_suffixes.specs.SettledWalks.{AreAhead}
use Rattle.run_places.specs.declared.place.Place.{Place}
use Rattle.run_places.specs.Spots.{spot_of, spots_of}
use Rattle.run_places.proofs.covering.Places.covers.Goals as goal

pub returns-then-stands_at : goal.returns-then-stands_at
returns-then-stands_at c = λ yes.
    subst (λ (ps : List Place). AreAhead (spots_of ps) (spot_of c.args.place.now)) c.deref.ensures.value (c.stands_at.ensures c.if-stands_at.true)
