-- A round between its parallel phase and its commit.
use Rattle.std.specs.Prelude.{◌≡◌, ℕ, Bool, List, length}
use Rattle.round_planner.specs.Quotas.{Planned}
use Rattle.serial_phase.specs.declared.shared.SharedState.{SharedState}
use Rattle.hart_rounds.specs.declared.hart_end.HartEnd.{HartEnd}
use Rattle.guest_rounds.specs.Guests.{Guest, shared_of}
use Rattle.guest_rounds.specs.NextStarts.{AreOfGuest}

-- what the harts of a guest share as the round after n rounds began, and what their part of its parallel phase left
pub record IsHalfDone (logs : Bool) (plan : Planned) (n : ℕ) (g : Guest) (s : SharedState) (os : List HartEnd) : Type 0 where
  pub shared : shared_of s ≡ g.shared
  pub size : length s.reservations ≡ length g.harts
  pub ends : AreOfGuest logs plan n g os
