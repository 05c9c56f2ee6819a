use Rattle.std.proofs.Common.{◌≡◌, Result, Ok, Err, IfOk}
use Rattle.pages.specs.declared.out_of_memory.OutOfMemory.{OutOfMemory}
use Rattle.own_moves.specs.Owned.{owns_of}
use Rattle.hart_states.specs.Opening.{opening_of}
use Rattle.hart_states.specs.States.{listed}
use Rattle.list_suffixes.specs.Serving.{Node}
use Rattle.run_places.specs.declared.walking.Walk.{Walk}
use Rattle.run_places.specs.Spots.{spots_of}
use Rattle.run_places.specs.Walks.{IsWalkFrom, IsWalkOn}
use Rattle.run_places.proofs.Followed.{from_on}
use Rattle.run_places.proofs.walking.walk_from.Goals as goal

if_ok : (r : Result Walk OutOfMemory) (P Q : Walk → Type 0) → ((w : Walk) → P w → Q w) → IfOk r P → IfOk r Q
if_ok (Ok w) P Q f p = f w p
if_ok (Err e) P Q f p = p

pub returns : goal.returns
returns c =
    let owns = owns_of c.args.against.now.owned.now in
    let k = c.args.against.now.steps in
    let image = c.args.against.now.memory.pages.now.memory in
    let harts = c.args.against.now.harts in
    let h = c.args.against.now.hart in
    let m = listed c.args.against.now.list.now in
    let opening = opening_of c.args.against.now.memory in
    let begin = spots_of c.args.begin.now in
    let begun = spots_of c.in_ok-places.places.all.items in
    if_ok c.walk_on.result (IsWalkOn owns k image harts h m opening begun)
    (λ w. (n : Node) → n.stores ≡ m → n.memory ≡ opening → n.spots h ≡ begin → IsWalkFrom owns k image harts h n w)
    (λ w on n stores memory at. from_on owns k image harts h n m opening begin begun w stores memory at c.in_ok-places.ensures on)
    c.walk_on.ensures
