-- Where a fence is tried.
use Rattle.std.specs.Prelude.{ℕ, ◌+◌, ◌^◌, ◌-◌, min}
use Rattle.fence_search.specs.declared.gathering.Weakness.{Weakness}
use Rattle.fence_trials.specs.declared.spot.Spot.{Spot}
use Rattle.fence_trials.specs.declared.spot.Spot.TheVariants.{Before, Behind, Between}

-- the address of the instruction before which it is: that behind a spot. Instructions have 4 bytes
abbrev pub pc_at : Spot → ℕ
pc_at (Behind pc) = min (pc + 4) (2 ^ 64 - 1)
pc_at (Before pc) = pc
pc_at (Between earlier later) = later

abbrev pub pc_of : Weakness → ℕ
pc_of w = pc_at w.spot
