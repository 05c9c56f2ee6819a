-- Doublewords of which no byte is looked at in the end.
use Rattle.std.specs.Prelude.{◌≡◌, ◌≢◌, ℕ, ◌/◌, true, All, List}
use Rattle.pages.specs.declared.access.Range.{Range}
use Rattle.pages.specs.Memory.{in_range}

-- a range has no byte of a doubleword
abbrev pub Misses : ℕ → Range → Type 0
Misses number r = (x : ℕ) → in_range r.start r.len x ≡ true → x / 8 ≢ number

-- none of some ranges has
abbrev pub IsUnseen : ℕ → List Range → Type 0
IsUnseen number see = All (Misses number) see
