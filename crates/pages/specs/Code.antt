-- Tests on a code range that look at its two numbers once.
use Rattle.std.specs.Prelude.{ℕ, ◌+◌, ◌-◌, Bool, ◌&&◌, if◌then◌else◌, nat_lt, nat_le}
use Rattle.pages.specs.declared.access.Range.{Range}

-- whether n addresses from a on and m from b on have one in common
abbrev pub overlaps : ℕ → ℕ → ℕ → ℕ → Bool
overlaps a n b m = (nat_lt 0 n && nat_lt 0 m) && (nat_lt a (b + m) && nat_lt b (a + n))

-- whether a range has an address
abbrev pub has_address : ℕ → Range → Bool
has_address a r = nat_le r.start a && nat_lt (a - r.start) r.len

-- whether a range has one of n addresses, of which there is at least one
abbrev pub has_some_address : ℕ → ℕ → Range → Bool
has_some_address a n r = if nat_lt a r.start then (nat_lt (r.start - a) n && nat_lt 0 r.len) else nat_lt (a - r.start) r.len

-- whether a range has four addresses
abbrev pub has_word : ℕ → Range → Bool
has_word a r = nat_le r.start a && (nat_le 4 r.len && nat_le (a - r.start) (r.len - 4))
