use Rattle.run_places.specs.Spots.{spot_of}
use Rattle.run_places.proofs.Standing.{came}
use Rattle.run_places.proofs.covering.Places.add.Goals as goal

pub returns-clause-covered : goal.returns-clause-covered
returns-clause-covered c = (spot_of c.args.place, came _ _ c.args.place c.in_ok-push-2.ensures.items, c.is_itself.ensures)
