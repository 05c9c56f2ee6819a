-- States that are ahead, behind moves that do the same.
use Rattle.std.proofs.Common.{◌≡◌, ℕ, List, [], ◌∷◌, ◌++◌, length, Contains, Option, Some, refl, sym, ap, ◌∙◌, subst, arith}
use Rattle.std.proofs.lemmas.List.{get_or_push, length_push}
use Rattle.memory_order.specs.Registers.{registers_of}
use Rattle.rule_checker.specs.CarriedBounds.{AreRegisters}
use Rattle.all_endings.specs.Earlier.{EarlierMovesAreLower, IsNoLater, IsSized}
use Rattle.all_endings.specs.RunStates.{Move, RunState}
use Rattle.all_endings.specs.StoreLists.{Stored}
use Rattle.all_endings.proofs.Walking.{lower_on}
use Rattle.hart_states.specs.declared.following.Successor.{Successor}
use Rattle.hart_states.specs.declared.choice.Choice.{Choice}
use Rattle.hart_states.specs.Choices.{move_of}
use Rattle.hart_moves.specs.Choosing.{IsFound}
use Rattle.hart_states.specs.Following.{Follows, place_done}
use Rattle.hart_moves.specs.Moves.{FollowsAhead}
use Rattle.private_bytes.specs.Ahead.{LowerStatesAreAhead}

-- what a move leaves that does the same no later is what this move leaves, or lower
pub follows_earlier : EarlierMovesAreLower → (h : ℕ) (m : List Stored) (a : RunState) (v w : Move) (s : Successor) → IsSized a → AreRegisters (registers_of v.instruction) →
    Follows h m a v s → IsNoLater m a v w → place_done v ≡ place_done w → Follows h m a w s
follows_earlier law h m a v w s size fit follows earlier place = record {
  state = lower_on _ _ _ follows.state (law h m a v w size fit earlier);
  done = follows.done ∙ place;
}

pub contains_last : (xs : List Successor) (y : Successor) (ys : List Successor) → ys ≡ xs ++ y ∷ [] → Contains ys y
contains_last xs y ys e =
    subst (λ (l : List Successor). Contains l y) (sym e) (length xs, omega (arith, length_push xs y), get_or_push xs y y (length xs) refl)

-- what was found for a move that is as this one
pub found_follows : EarlierMovesAreLower → LowerStatesAreAhead → (h : ℕ) (m : List Stored) (a : RunState) (o : Option Choice) (c : Choice) (s : Successor) (v : Move) → IsSized a →
    AreRegisters (registers_of c.instruction) → o ≡ Some c → Follows h m a (move_of c) s → IsFound m a o v → FollowsAhead h m a v s
found_follows law ahead h m a o c s v size fit is follows found =
    let f = follows_earlier law h m a (move_of c) v s size fit follows (subst (λ (d : Choice). IsNoLater m a (move_of d) v) (sym one) found.earlier)
    (ap (λ (d : Choice). place_done (move_of d)) one ∙ found.done) in
    record { state = ahead _ _ f.state; done = f.done }
  where
    one : c ≡ found.choice
    one = let e = found.is in cc
