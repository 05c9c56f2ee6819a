-- The places of the last events of harts, as the test for rising places notes them.
use Rattle.std.specs.Prelude.{◌≡◌, ℕ, ◌<◌, ◌≤◌, List, length, slice_index_or, slice_set, Option, Some, None}
use Rattle.round_schedule.specs.declared.event.Event.{Event}
use Rattle.round_schedule.specs.Accesses.{place_of}
use Rattle.round_schedule.specs.Positions.{event}

-- the place of event i is above those of its hart before it
abbrev pub IsAbove : List Event → ℕ → Type 0
IsAbove t i = (k : ℕ) → k < i → (event t k).hart ≡ (event t i).hart → place_of (event t k).access < place_of (event t i).access

-- the greatest place of hart h among the first i events, none where it has no event there
abbrev pub IsLast : List Event → ℕ → ℕ → Option ℕ → Type 0
IsLast t i h None = (k : ℕ) → k < i → (event t k).hart ≡ h → ⊥
IsLast t i h (Some p) =
    ((k : ℕ) → k < i → (event t k).hart ≡ h → place_of (event t k).access ≤ p) ×
    ((k : ℕ) × (k < i) × ((event t k).hart ≡ h) × (place_of (event t k).access ≡ p))

-- each entry of the list is that of the hart of its number
abbrev pub AreLast : List Event → ℕ → List (Option ℕ) → Type 0
AreLast t i last = (h : ℕ) → h < length last → IsLast t i h (slice_index_or last h None)

-- the list with the place of an event as the last one of its hart
abbrev pub noted : List (Option ℕ) → Event → List (Option ℕ)
noted last e = slice_set last e.hart (Some (place_of e.access))
