use Rattle.hart_states.specs.Opening.{opening_of}
use Rattle.hart_states.specs.States.{listed}
use Rattle.own_moves.specs.Owned.{owns_of}
use Rattle.run_places.specs.Spots.{spots_of}
use Rattle.run_places.proofs.Standing.{ahead_stays}
use Rattle.settled_walks.proofs.SettledSpots.{known_walk}
use Rattle.settled_walks.proofs.walking.known_places.Goals as goal

pub returns : goal.returns
returns c = λ n stores memory at.
    let begun = c.in_ok-places.places.all.items in
    let all = c.walk_known.new.places.all.items in
    known_walk (owns_of c.args.against.now.owned.now) c.args.against.now.steps c.args.against.now.memory.pages.now.memory c.args.against.now.harts c.args.against.now.hart
    (listed c.args.against.now.list.now) (opening_of c.args.against.now.memory) n (spots_of c.args.begin.now) (spots_of all) stores memory at
    (λ p there. ahead_stays begun all p (c.in_ok-whole.ensures.grows c.if-not-whole.false) (c.in_ok-places.ensures p there)) (c.in_ok-whole.ensures.known c.if-not-whole.false)
