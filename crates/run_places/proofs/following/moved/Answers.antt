use Rattle.std.proofs.Common.{◌≡◌, ◌∙◌, ◌+◌, ℕ, Bool, if◌then◌else◌, None, Some, length, ap, subst}
use Rattle.std.proofs.lemmas.Bool.{cond-true}
use Rattle.std.proofs.lemmas.List.{length-map}
use Rattle.round_schedule.specs.Accesses.{stores as writing}
use Rattle.hart_moves.specs.declared.moving.Reached.{Reached}
use Rattle.own_moves.specs.Moves.{AreMoves}
use Rattle.own_moves.specs.Owned.{owns_of}
use Rattle.hart_states.specs.Following.{place_done}
use Rattle.hart_states.specs.Opening.{opening_of}
use Rattle.hart_states.specs.States.{listed, state_of, stored_of}
use Rattle.run_places.proofs.following.moved.Goals as goal

pub returns-in_ok-behind-in-Whole-clause-moves : goal.returns-in_ok-behind-in-Whole-clause-moves
returns-in_ok-behind-in-Whole-clause-moves c = λ v l makes.
    let owns = owns_of c.args.against.now.owned.now in
    let image = c.args.against.now.memory.pages.now.memory in
    let h = c.args.against.now.hart in
    let m = listed c.args.against.now.list.now in
    let opening = opening_of c.args.against.now.memory in
    let moves = subst (λ (r : Reached). AreMoves owns image h m opening (state_of c.args.place.now.state) r) c.in-Whole.is c.in_ok-next.ensures in
    let s = moves v makes.decodes makes.acts makes.stands in
    c.in_ok-behind-in-Whole.ensures.moves owns v s.0 s.1 s.2 (λ is. c.stays_constant-constant.ensures is owns h m opening v makes.decodes makes.acts)

pub returns-in_ok-behind-in-Whole-clause-later : goal.returns-in_ok-behind-in-Whole-clause-later
returns-in_ok-behind-in-Whole-clause-later c = λ t chosen v l makes public wet late.
    let owns = owns_of c.args.against.now.owned.now in
    let image = c.args.against.now.memory.pages.now.memory in
    let h = c.args.against.now.hart in
    let m = listed c.args.against.now.list.now in
    let opening = opening_of c.args.against.now.memory in
    let moves = subst (λ (r : Reached). AreMoves owns image h m opening (state_of c.args.place.now.state) r) c.in-Whole.is c.in_ok-next.ensures in
    let s = moves v makes.decodes makes.acts makes.stands in
    let time : v.time ≡ length c.args.against.now.list.now + 1 = late ∙ ap (λ (n : ℕ). n + 1) (length-map c.args.against.now.list.now stored_of) in
    let done : s.0.done ≡ Some (length c.args.against.now.list.now + 1) =
    s.2.done ∙ (ap (λ (b : Bool). if b then None else place_done v) public ∙ (cond-true (writing v.access) (Some v.time) None wet ∙ ap (λ (n : ℕ). Some n) time)) in
    c.in_ok-behind-in-Whole.ensures.later owns v s.0 t s.1 s.2 (λ is. c.stays_constant-constant.ensures is owns h m opening v makes.decodes makes.acts) chosen done
