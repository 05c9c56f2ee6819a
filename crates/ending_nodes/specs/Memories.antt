-- What stores leave in memory.
use Rattle.std.specs.Prelude.{◌≡◌, ℕ, true, false, if◌then◌else◌, List}
use Rattle.all_endings.specs.StoreLists.{Stored, byte_in, has_byte}
use Rattle.all_endings.specs.Tables.{memory_of}

-- behind one store
abbrev pub left_by : Stored → (ℕ → ℕ) → ℕ → ℕ
left_by s before x = if has_byte s x then byte_in s x else before x

-- of the bytes of a store a list leaves what the store does
abbrev pub Leaves : Stored → List Stored → Type 0
Leaves s m = (opening : ℕ → ℕ) (x : ℕ) → has_byte s x ≡ true → memory_of m opening x ≡ byte_in s x

-- but for the bytes of a store, a list leaves what another one and one store more do
abbrev pub IsAsBut : Stored → Stored → List Stored → List Stored → Type 0
IsAsBut s other old new = (opening : ℕ → ℕ) (x : ℕ) → has_byte s x ≡ false → memory_of new opening x ≡ left_by other (memory_of old opening) x
