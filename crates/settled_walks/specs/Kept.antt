-- What is kept of a byte, with its times counted by the stores that stay.
use Rattle.std.specs.Prelude.{◌≡◌, ℕ, ◌==◌, ◌⊎◌, Bool, if◌then◌else◌, List, option_map}
use Rattle.run_bounds.specs.declared.touched.OwnByte.{OwnByte}
use Rattle.run_bounds.specs.declared.touched.TouchedByte.{TouchedByte}
use Rattle.run_bounds.specs.Touched.{known_at, untouched}
use Rattle.all_endings.specs.StoreLists.{Stored}
use Rattle.list_suffixes.specs.Staying.{kept_before, place_kept}

-- the last own store to byte x
abbrev pub own_kept : List Bool → List Stored → ℕ → OwnByte → OwnByte
own_kept stays m x o = record o { place = place_kept stays m x o.place; needs = kept_before stays o.needs }

abbrev pub byte_kept : List Bool → List Stored → TouchedByte → TouchedByte
byte_kept stays m b = record {
  address = b.address;
  touched = kept_before stays b.touched;
  seen = place_kept stays m b.address b.seen;
  own = option_map (own_kept stays m b.address) b.own;
}

-- so of all bytes
abbrev pub AreBytesKept : List Bool → List Stored → List TouchedByte → List TouchedByte → Type 0
AreBytesKept stays m old new = (x : ℕ) → known_at new x ≡ byte_kept stays m (known_at old x)

-- what is known of a byte is kept, or nothing is known of it
abbrev pub IsKeptIn : TouchedByte → List TouchedByte → List TouchedByte → Type 0
IsKeptIn b old new = ((x : ℕ) → known_at new x ≡ (if b.address == x then b else known_at old x)) ⊎ (new ≡ old) × (b ≡ untouched b.address)
