-- Known moves from a state that stands nowhere behind the list leave states that don't, too.
use Rattle.std.proofs.Common.{◌≡◌, ℕ, ◌+◌, ◌<◌, ◌≤◌, min, Bool, true, false, if◌then◌else◌, List, length, Contains, refl, inl, inr, arith}
use Rattle.pages.specs.Memory.{Memory}
use Rattle.round_schedule.specs.Accesses.{stores}
use Rattle.memory_order.specs.Registers.{registers_of}
use Rattle.rule_checker.specs.CarriedBounds.{AreRegisters}
use Rattle.all_endings.specs.Earlier.{IsSized}
use Rattle.all_endings.specs.RunStates.{Move, RunState, behind, moved}
use Rattle.all_endings.specs.StoreLists.{Stored, later}
use Rattle.all_endings.proofs.DecodedRegisters.{decoded_fits}
use Rattle.hart_states.specs.declared.following.Successor.{Successor}
use Rattle.hart_states.specs.States.{state_of}
use Rattle.own_moves.specs.Moves.{FollowsApart, HasMoves}
use Rattle.private_bytes.specs.Ahead.{IsAhead, LowerStatesAreAhead}
use Rattle.private_bytes.specs.Owners.{is_private}
use Rattle.private_bytes.specs.PrivateMoves.{moved_privately}
use Rattle.private_bytes.specs.PrivateTimes.{EarliestPrivateMoveIsLowest}
use Rattle.private_bytes.specs.PrivateWalks.{Spot, spot_after}
use Rattle.list_suffixes.specs.ApartRuns.{MovesApart}
use Rattle.list_suffixes.specs.SettledWalks.{IsKnown}
use Rattle.run_places.proofs.Losing.{lost_by}
use Rattle.settled_walks.specs.KnownWalks.{IsFollowedBy}
use Rattle.settled_walks.specs.Within.{IsWithin}
use Rattle.settled_walks.proofs.KnownStates.{moved_within, privately_within, within_ahead}
use Rattle.run_places.proofs.Standing.{ahead_by}
use Rattle.settled_walks.proofs.Sooner.{IsSooner, sooner}

-- the time behind an operation that is known
behind_known : (m : List Stored) (v : Move) → (v.time ≤ length m) × (stores v.access ≡ true → v.time < length m) → behind m v ≤ length m
behind_known m v k = by_test (stores v.access) k.1
  where
    by_test : (b : Bool) → (b ≡ true → v.time < length m) → min (if b then v.time + 1 else v.time) (later m) ≤ length m
    by_test true l = let s = l refl in omega (arith, s)
    by_test false l = let s = k.0 in omega (arith, s)

module _ (owns : ℕ → ℕ → Bool) (image : Memory) (h : ℕ) (m : List Stored) (opening : ℕ → ℕ) (p : Spot) (ps : List Spot) (ss : List Successor) (within : IsWithin (length m) p.place.state)
    (sized : IsSized p.place.state) (moves : HasMoves owns image h m opening p.place.state ss)
    (each : (v : Move) (s : Successor) → MovesApart owns image h m opening p v → Contains ss s → FollowsApart owns h m p.place.state v s → IsWithin (length m) (state_of s.state) →
    IsFollowedBy owns h m p v ps) where
  abbrev a : RunState
  a = p.place.state

  abbrev left_by : Bool → Move → RunState
  left_by b v = if b then moved_privately h m a v else moved h m a v

  left_private : (b : Bool) (v : Move) (s : Successor) → b ≡ true → IsAhead (state_of s.state) (left_by b v) → IsAhead (state_of s.state) (moved_privately h m a v)
  left_private true v s e l = l
  left_private false v s e l = absurd (cc)

  left_shared : (b : Bool) (v : Move) (s : Successor) → b ≡ false → IsAhead (state_of s.state) (left_by b v) → IsAhead (state_of s.state) (moved h m a v)
  left_shared false v s e l = l
  left_shared true v s e l = absurd (cc)

  fit : (v : Move) → MovesApart owns image h m opening p v → AreRegisters (registers_of v.instruction)
  fit v makes = decoded_fits image a.pc v.instruction makes.decodes

  shared : (v : Move) → MovesApart owns image h m opening p v → is_private owns h v.access ≡ false → IsKnown owns h m v → IsFollowedBy owns h m p v ps
  shared v makes public known =
      let s = moves v makes.decodes makes.acts makes.stands in
      each v s.0 makes s.1 s.2
      (within_ahead (length m) (state_of s.0.state) (moved h m a v) (left_shared (is_private owns h v.access) v s.0 public s.2.state)
      (moved_within (length m) h a v within sized (fit v makes) m (λ op. behind_known m v (known op public))))

  private : LowerStatesAreAhead → EarliestPrivateMoveIsLowest → (v : Move) → MovesApart owns image h m opening p v → is_private owns h v.access ≡ true → IsFollowedBy owns h m p v ps
  private lower earliest v makes own =
      let u = sooner owns image h m opening (length m) p v within own makes lower earliest sized in
      let is = u.1 in
      let s = moves u.0 is.moves.decodes is.moves.acts is.moves.stands in
      as_other u.0 is
      (each u.0 s.0 is.moves s.1 s.2
      (within_ahead (length m) (state_of s.0.state) (moved_privately h m a u.0) (left_private (is_private owns h u.0.access) u.0 s.0 is.private s.2.state)
      (privately_within (length m) h a u.0 within sized (fit u.0 is.moves) m is.time)))
    where
      as_other : (u : Move) → IsSooner owns image h m opening (length m) p v u → IsFollowedBy owns h m p u ps → IsFollowedBy owns h m p v ps
      as_other u is (inl ahead) = inl (ahead_by ps (spot_after owns h m p u) (spot_after owns h m p v) ahead is.stands)
      as_other u is (inr lost) = inr (lost_by h m (spot_after owns h m p u) (spot_after owns h m p v) (is.stands m) lost)

  pub known_followed : LowerStatesAreAhead → EarliestPrivateMoveIsLowest → (v : Move) → MovesApart owns image h m opening p v → IsKnown owns h m v → IsFollowedBy owns h m p v ps
  known_followed lower earliest v makes known = by_test (is_private owns h v.access) refl
    where
      by_test : (b : Bool) → is_private owns h v.access ≡ b → IsFollowedBy owns h m p v ps
      by_test true own = private lower earliest v makes own
      by_test false public = shared v makes public known
