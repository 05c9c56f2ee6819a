use Rattle.hart_states.specs.States.{listed}
use Rattle.own_moves.specs.Owned.{owns_of}
use Rattle.run_places.specs.Spots.{spot_of}
use Rattle.early_reads.specs.Checking.{map_of}
use Rattle.late_spots.proofs.Settling.{settled_behind, settled_known, settled_lost}
use Rattle.late_spots.proofs.going_on.goes_on.Goals as goal

pub returns-in_default : goal.returns-in_default
returns-in_default c = λ new.
    settled_known (map_of c.args.points.now) (owns_of c.args.against.now.owned.now) c.args.against.now.memory.pages.now.memory c.args.against.now.hart c.args.stays.now
    (listed c.args.against.now.list.now) new (spot_of c.args.place.now) c.in_default.ensures.none

pub returns-then-loses_debts : goal.returns-then-loses_debts
returns-then-loses_debts c = λ new.
    settled_lost (map_of c.args.points.now) (owns_of c.args.against.now.owned.now) c.args.against.now.memory.pages.now.memory c.args.against.now.hart c.args.stays.now
    (listed c.args.against.now.list.now) new (spot_of c.args.place.now) c.in-Some.access c.in-Some.ensures.some (c.loses_debts.ensures c.if-loses_debts.true)

pub returns-then-goes_behind : goal.returns-then-goes_behind
returns-then-goes_behind c = λ new.
    settled_behind (map_of c.args.points.now) (owns_of c.args.against.now.owned.now) c.args.against.now.memory.pages.now.memory c.args.against.now.hart c.args.stays.now
    (listed c.args.against.now.list.now) new (spot_of c.args.place.now) c.in-Some.access c.in-Some.ensures.some (c.goes_behind.ensures c.if-goes_behind.true)
