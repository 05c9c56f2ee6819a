-- With which find a search is over that ends with one.
use Rattle.std.specs.Prelude.{◌≡◌, ⊤, List, [], true, Bool}
use Rattle.fence_table.specs.Accepting.{Words}
use Rattle.fence_trials.specs.declared.trying.Trial.{Trial}
use Rattle.fence_trials.specs.declared.trying.Trial.TheVariants.{Well, Ordinary, Running, Unnamed, Fails, Unconfirmed}

-- a number of which this came fails for want of a fence
abbrev pub IsFind : Trial → Type 0
IsFind Well = ⊥
IsFind Ordinary = ⊥
IsFind Running = ⊥
IsFind Unnamed = ⊥
IsFind (Fails found) = ⊤
IsFind Unconfirmed = ⊥

-- a search is over with a find alone; where no place is accepted, with each
pub record IsEnough (accepted : List Words) (t : Trial) (over : Bool) : Type 0 where
  pub find : over ≡ true → IsFind t
  pub each : IsFind t → accepted ≡ [] → over ≡ true
