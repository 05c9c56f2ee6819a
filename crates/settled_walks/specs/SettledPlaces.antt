-- What a settled walk asks of one spot, where some stores of its list are laid into memory.
use Rattle.std.specs.Prelude.{ℕ, ◌⊎◌, Bool, List}
use Rattle.pages.specs.Memory.{Memory}
use Rattle.all_endings.specs.StoreLists.{Stored}
use Rattle.private_bytes.specs.PrivateWalks.{Spot}
use Rattle.list_suffixes.specs.SettledWalks.{AreAhead}
use Rattle.list_suffixes.specs.Staying.{spot_kept}
use Rattle.early_reads.specs.EarlyMaps.{EarlyMap}
use Rattle.late_spots.specs.LateSpots.{IsSettledSpot}
use Rattle.settled_walks.specs.KnownWalks.{GoesOn}

-- where its runs go on late, or may end, there is a new spot
pub record IsSettledAt (f : EarlyMap) (owns : ℕ → ℕ → Bool) (image : Memory) (h : ℕ) (stays : List Bool) (m : List Stored) (new : List Spot) (p : Spot) : Type 0 where
  pub late : IsSettledSpot f owns image h stays m new p
  pub ends : AreAhead new (spot_kept stays m p) ⊎ GoesOn image p.place.state
