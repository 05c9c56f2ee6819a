use Rattle.std.proofs.Common.{◌≡◌, ℕ, ◌+◌, Bool, true, length, Contains, Some}
use Rattle.all_endings.specs.RunStates.{Move}
use Rattle.own_moves.specs.Moves.{FollowsApart}
use Rattle.private_bytes.specs.PrivateWalks.{LeadsOn, constant_after, spot_with}
use Rattle.hart_states.specs.States.{listed, state_of, stored_of}
use Rattle.hart_states.specs.declared.following.Successor.{Successor}
use Rattle.hart_states.specs.declared.listed_store.ListedStore.{ListedStore}
use Rattle.run_places.specs.Spots.{spot_of, spots_of}
use Rattle.run_places.proofs.reaching.places_behind.Given as goal

abbrev pub invariant-loop-successor : goal.invariant-loop-successor
invariant-loop-successor l = record {
  moves : (owns : ℕ → ℕ → Bool) (v : Move) (s : Successor) → Contains l.yielded s → FollowsApart owns l.against.hart (listed l.against.list.now) (state_of l.place.state) v s →
      (l.constant ≡ true → constant_after l.place.constant v ≡ true) →
      LeadsOn owns l.against.hart (listed l.against.list.now) (spots_of l.behind.items) (spot_of l.place) v;
  later : (owns : ℕ → ℕ → Bool) (v : Move) (s : Successor) (t : ListedStore) → Contains l.yielded s → FollowsApart owns l.against.hart (listed l.against.list.now) (state_of l.place.state) v s →
      (l.constant ≡ true → constant_after l.place.constant v ≡ true) → l.chosen ≡ Some t → s.done ≡ Some (length l.against.list.now + 1) →
      LeadsOn owns l.against.hart (listed l.against.list.now) (spots_of l.behind.items) (spot_with (spot_of l.place) (stored_of t)) v;
}
