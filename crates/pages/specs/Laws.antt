-- The laws of stores that functions of this crate carry.
use Rattle.std.specs.Prelude.{◌≡◌, ℕ, ◌<◌, List, length, slice_index}
use Rattle.pages.specs.declared.access.Store.{Store}
use Rattle.pages.specs.Memory.{Memory, TouchesNoCode, after, fetched, last_byte, stored}

-- each byte is that of the last store that covers it, else what it was
abbrev pub LastStoreWins : Type 0
LastStoreWins = (bs : List ℕ) (k : ℕ) (ss : List Store) → k < length bs → slice_index (after bs ss) k ≡ last_byte (slice_index bs k) ss k

-- stores that touch no code change no fetched word
abbrev pub CodeStays : Type 0
CodeStays = (m : Memory) (pc : ℕ) (ss : List Store) → TouchesNoCode m.code ss → fetched (stored m ss) pc ≡ fetched m pc
