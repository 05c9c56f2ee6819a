use Rattle.std.proofs.Common.{◌≡◌, ℕ, length, sym, subst}
use Rattle.std.proofs.lemmas.List.{length-map}
use Rattle.hart_moves.specs.declared.moving.Reached.{Reached}
use Rattle.hart_states.specs.Opening.{opening_of}
use Rattle.hart_states.specs.States.{listed, state_of, stored_of}
use Rattle.own_moves.specs.Moves.{AreMoves}
use Rattle.own_moves.specs.Owned.{owns_of}
use Rattle.run_places.specs.Spots.{spot_of, spots_of}
use Rattle.settled_walks.specs.Within.{IsWithin}
use Rattle.settled_walks.proofs.KnownMoves.{known_followed}
use Rattle.settled_walks.proofs.known_moves.known_behind.Goals as goal

pub returns-in_ok-behind-in-Whole : goal.returns-in_ok-behind-in-Whole
returns-in_ok-behind-in-Whole c = λ v l makes known.
    let owns = owns_of c.args.against.now.owned.now in
    let image = c.args.against.now.memory.pages.now.memory in
    let h = c.args.against.now.hart in
    let m = listed c.args.against.now.list.now in
    let opening = opening_of c.args.against.now.memory in
    let a = state_of c.args.place.now.state in
    let size : length c.args.against.now.list.now ≡ length m = sym (length-map c.args.against.now.list.now stored_of) in
    let moves = subst (λ (r : Reached). AreMoves owns image h m opening a r) c.in-Whole.is c.in_ok-next.ensures in
    known_followed owns image h m opening (spot_of c.args.place.now) (spots_of c.in_ok-behind-in-Whole.behind.items) c.in-Whole.successors.items
    (subst (λ (n : ℕ). IsWithin n a) size c.requires.within) c.is_sized.ensures moves
    (λ u s makes_u there follows within.
    c.in_ok-behind-in-Whole.ensures owns u s there follows (subst (λ (n : ℕ). IsWithin n (state_of s.state)) (sym size) within)
    (λ is. c.stays_constant-constant.ensures is owns h m opening u makes_u.decodes makes_u.acts))
    c.lower_states_are_ahead.ensures c.earliest_private_move_is_lowest.ensures v makes known
