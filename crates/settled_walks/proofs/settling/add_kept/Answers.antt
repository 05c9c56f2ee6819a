use Rattle.run_places.proofs.Standing.{ahead_by}
use Rattle.run_places.specs.Spots.{spot_of, spots_of}
use Rattle.settled_walks.proofs.settling.add_kept.Goals as goal

pub returns-clause-ends : goal.returns-clause-ends
returns-clause-ends c = λ yes. ahead_by (spots_of c.add.new.self.all.items) (spot_of c.in_ok-kept.kept) _ c.in_ok-add.ensures.covered c.in_ok-kept.ensures

pub returns-clause-behind : goal.returns-clause-behind
returns-clause-behind c = λ yes. ahead_by (spots_of c.add.new.self.all.items) (spot_of c.in_ok-kept.kept) _ c.in_ok-add.ensures.covered c.in_ok-kept.ensures
