-- What was found to follow a place.
use Rattle.std.specs.Prelude.{ℕ, Bool, List, Option}
use Rattle.std.specs.Option.{option_to_list}
use Rattle.pages.specs.Memory.{Memory}
use Rattle.all_endings.specs.StoreLists.{Stored}
use Rattle.all_endings.specs.Walking.{HartEnding}
use Rattle.hart_ends.specs.declared.ends.HartEnd.{HartEnd}
use Rattle.hart_ends.specs.Told.{ends_told}
use Rattle.hart_states.specs.declared.listed_store.ListedStore.{ListedStore}
use Rattle.hart_states.specs.States.{listed}
use Rattle.private_bytes.specs.PrivateWalks.{Spot}
use Rattle.run_places.specs.declared.following.Outcome.{Outcome}
use Rattle.run_places.specs.declared.following.Outcome.TheVariants.{Unknown, Whole}
use Rattle.run_places.specs.Following.{IsFollowed}
use Rattle.run_places.specs.Spots.{spots_of}

abbrev pub offer_told : Option ListedStore → List Stored
offer_told o = listed (option_to_list o)

abbrev pub end_found : Option HartEnd → List HartEnding
end_found e = ends_told (option_to_list e)

abbrev pub IsOutcomeOf : (ℕ → ℕ → Bool) → ℕ → Memory → ℕ → ℕ → List Stored → (ℕ → ℕ) → Spot → Outcome → Type 0
IsOutcomeOf owns k image harts h m opening p (Whole f) = IsFollowed owns k image harts h m opening p (offer_told f.offered) (end_found f.end) (spots_of f.reached.items)
IsOutcomeOf owns k image harts h m opening p (Unknown why) = Unit {0}
