-- The bytes that a store buffer holds: each address with the byte last put there, in rising address.
use Rattle.std.specs.Prelude.{ℕ, zero, suc, ◌+◌, ◌/◌, ◌%◌, ◌^◌, ◌<◌, ◌≤◌, ◌==◌, nat_lt, if◌then◌else◌, List, [], ◌∷◌, map, Option, Some, None}
use Rattle.pages.specs.declared.access.Store.{Store}
use Rattle.pages.specs.declared.access.Width.TheVariants.{W1}
use Rattle.pages.specs.Memory.{width_bytes}

-- a byte put where it belongs
abbrev pub with_byte : List (ℕ × ℕ) → ℕ → ℕ → List (ℕ × ℕ)
with_byte [] a b = (a, b) ∷ []
with_byte (e ∷ es) a b = if nat_lt a e.0 then (a, b) ∷ e ∷ es else (if a == e.0 then (a, b) ∷ es else e ∷ with_byte es a b)

-- the low n bytes of a value, put from an address on
abbrev pub with_bytes : List (ℕ × ℕ) → ℕ → ℕ → ℕ → List (ℕ × ℕ)
with_bytes es a v zero = es
with_bytes es a v (suc n) = with_bytes (with_byte es a (v % 2 ^ 8)) (a + 1) (v / 2 ^ 8) n

-- one store more
unfoldable pub with_store : List (ℕ × ℕ) → Store → List (ℕ × ℕ)
with_store es s = with_bytes es s.address s.value (width_bytes s.width)

-- a list of stores more, the first of them first
abbrev pub with_stores : List (ℕ × ℕ) → List Store → List (ℕ × ℕ)
with_stores es [] = es
with_stores es (s ∷ ss) = with_stores (with_store es s) ss

-- the byte at an address, if there is one
abbrev pub byte_at : List (ℕ × ℕ) → ℕ → Option ℕ
byte_at [] x = None
byte_at (e ∷ es) x = if e.0 == x then Some e.1 else byte_at es x

-- a byte as a store of width 1
abbrev pub one_byte : ℕ × ℕ → Store
one_byte e = record { address = e.0; width = W1; value = e.1 }

abbrev pub stores_of : List (ℕ × ℕ) → List Store
stores_of es = map one_byte es

-- the addresses rise from one on, and each entry is a byte
abbrev pub Rising : ℕ → List (ℕ × ℕ) → Type 0
Rising low [] = Unit {0}
Rising low (e ∷ es) = (low ≤ e.0) × (e.1 < 2 ^ 8) × Rising (e.0 + 1) es
