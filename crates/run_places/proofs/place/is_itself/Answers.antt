use Rattle.run_places.specs.Spots.{spot_of}
use Rattle.run_places.proofs.Standing.{stands_self}
use Rattle.run_places.proofs.place.is_itself.Goals as goal

pub returns : goal.returns
returns c = λ m. stands_self m (spot_of c.args.place.now) c.is_sized.ensures
