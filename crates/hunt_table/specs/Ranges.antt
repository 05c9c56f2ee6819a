-- Ranges of the same bytes in two builds of a program.
use Rattle.std.specs.Prelude.{◌≡◌, ◌<◌, ℕ, List, None, length, slice_index_or}
use Rattle.hunt_table.specs.declared.seen_range.SeenRange.{SeenRange}

-- as many bytes of an object, wherever it lies, or else those at an address
pub record IsAlike (r s : SeenRange) : Type 0 where
  pub as_many : r.length ≡ s.length
  pub name : r.name ≡ s.name
  pub address : r.name ≡ None → r.address ≡ s.address

-- those at the places up to this one are alike
abbrev pub AreAlikeUpTo : List SeenRange → List SeenRange → ℕ → Type 0
AreAlikeUpTo ranges others end = (index : ℕ) → index < end → (d : SeenRange) → IsAlike (slice_index_or ranges index d) (slice_index_or others index d)

-- there are as many, and they are alike, one by one
pub record AreAlike (ranges others : List SeenRange) : Type 0 where
  pub as_many : length ranges ≡ length others
  pub each : AreAlikeUpTo ranges others (length ranges)
