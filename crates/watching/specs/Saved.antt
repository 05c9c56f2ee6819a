-- The bytes of watched ranges at the start of a round.
use Rattle.std.specs.Prelude.{ℕ, ◌-◌, if◌then◌else◌, List, [], ◌∷◌, take, drop, slice_get, Option, None}
use Rattle.pages.specs.declared.access.Range.{Range}
use Rattle.pages.specs.Memory.{in_range}
use Rattle.watching.specs.declared.watchpoint.Watchpoint.{Watchpoint}
use Rattle.watching.specs.Watches.{tells_changes}

-- a range, and its bytes: fewer where memory ends before
pub record SavedBytes : Type 0 where
  pub range : Range
  pub bytes : List ℕ

-- at most so many bytes from an address on; fewer where memory ends before
abbrev pub bytes_from : List ℕ → ℕ → ℕ → List ℕ
bytes_from bs address count = take count (drop address bs)

-- those of the ranges whose changes are told
abbrev pub saved_of : List Watchpoint → List ℕ → List SavedBytes
saved_of [] bs = []
saved_of (w ∷ ws) bs = if tells_changes w.kind then record { range = w.range; bytes = bytes_from bs w.range.start w.range.len } ∷ saved_of ws bs else saved_of ws bs

-- the one at an address, of the first range that has it
abbrev pub saved_byte : List SavedBytes → ℕ → Option ℕ
saved_byte [] x = None
saved_byte (s ∷ ss) x = if in_range s.range.start s.range.len x then slice_get s.bytes (x - s.range.start) else saved_byte ss x
