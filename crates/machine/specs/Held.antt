-- What ties the parts of a machine together that keeps no trace.
use Rattle.std.specs.Prelude.{◌≡◌, ℕ, ◌*◌, ◌≤◌, length}
use Rattle.guest_rounds.specs.Guests.{Guest}
use Rattle.guest_rounds.specs.Held.{most_of_round}

-- as many harts as the plan has, and only so many events as the rounds leave room for
pub record HoldsRun (g : Guest) (n events rounds : ℕ) : Type 0 where
  pub harts : length g.harts ≡ n
  pub few : events ≤ 64 * most_of_round * rounds
