use Rattle.std.proofs.Common.{◌≡◌, ℕ, Bool, true, length, Contains}
use Rattle.all_endings.specs.RunStates.{Move}
use Rattle.own_moves.specs.Moves.{FollowsApart}
use Rattle.private_bytes.specs.PrivateWalks.{constant_after}
use Rattle.hart_states.specs.States.{listed, state_of}
use Rattle.hart_states.specs.declared.following.Successor.{Successor}
use Rattle.run_places.specs.Spots.{spot_of, spots_of}
use Rattle.settled_walks.specs.KnownWalks.{IsFollowedBy}
use Rattle.settled_walks.specs.Within.{IsWithin}
use Rattle.settled_walks.proofs.known_moves.all_behind.Given as goal

abbrev pub invariant-loop-successor : goal.invariant-loop-successor
invariant-loop-successor l =
    (owns : ℕ → ℕ → Bool) (v : Move) (s : Successor) → Contains l.yielded s → FollowsApart owns l.against.hart (listed l.against.list.now) (state_of l.place.state) v s →
    IsWithin (length l.against.list.now) (state_of s.state) → (l.constant ≡ true → constant_after l.place.constant v ≡ true) →
    IsFollowedBy owns l.against.hart (listed l.against.list.now) (spot_of l.place) v (spots_of l.behind.items)
