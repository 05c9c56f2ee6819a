-- Places of a hart's runs, as the laws of bytes that one hart alone touches have them.
use Rattle.std.specs.Prelude.{◌≡◌, ℕ, ◌==◌, Bool, List, ◌++◌, map, option_map}
use Rattle.std.specs.List.{list_any}
use Rattle.all_endings.specs.Walking.{Place}
use Rattle.hart_states.specs.States.{state_of, stored_of}
use Rattle.private_bytes.specs.PrivateWalks.{Spot}
use Rattle.run_places.specs.declared.place.Place.{Place as KeptPlace}

-- whether a store of the list is among those that were done
abbrev pub is_among : List ℕ → ℕ → Bool
is_among paid j = list_any (λ k. k == j) paid

abbrev pub place_of : KeptPlace → Place
place_of p = record { state = state_of p.state; count = p.count; paid = λ j. is_among p.paid.items j; next = option_map stored_of p.next }

abbrev pub spot_of : KeptPlace → Spot
spot_of p = record { place = place_of p; constant = p.constant }

abbrev pub spots_of : List KeptPlace → List Spot
spots_of ps = map spot_of ps

-- places that others were added to, if any
pub record Grows (old new : List KeptPlace) : Type 0 where
  pub more : List KeptPlace
  pub behind : new ≡ old ++ more
