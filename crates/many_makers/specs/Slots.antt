-- What was made for numbers, where `Makes k r` says that r may be what is made for k.
use Rattle.std.specs.Prelude.{◌≡◌, ℕ, List, Option, Some, None, slice_index_or}
use Rattle.many_makers.specs.declared.slots.Made.{Made}

abbrev pub IsMade : {T : Type 0} → (ℕ → Option T → Type 0) → Made T → Type 0
IsMade Makes made = Makes made.index (Some made.value)

-- what is in a slot was made for its number
abbrev pub AreMade : {T : Type 0} → (ℕ → Option T → Type 0) → List (Option T) → Type 0
AreMade {T} Makes slots = (k : ℕ) (t : T) → slice_index_or slots k None ≡ Some t → Makes k (Some t)
