-- The bytes that pieces lay into guest memory are bytes.
use Rattle.std.proofs.Common.{ℕ, suc, ◌+◌, ◌-◌, ◌<◌, ◌^◌, Bool, true, false, if◌then◌else◌, List, [], ◌∷◌, length, get_or, inl, inr, arith, All}
use Rattle.std.proofs.lemmas.Bool.{cases_lt}
use Rattle.std.proofs.lemmas.List.{get_or_past}
use Rattle.std.proofs.lemmas.List.Elements.{All-get_or, All-from_get_or, All-head}
use Rattle.pages.specs.Initial.{bytes_from, get_or-bytes_from, length-bytes_from, piece_byte}
use Rattle.pages.specs.Memory.{IsBytes, in_range}
use Rattle.pages.specs.declared.access.Piece.{Piece}

byte_at : (bs : List ℕ) (i : ℕ) → IsBytes bs → get_or bs i 0 < 2 ^ 8
byte_at bs i h = elim (cases_lt i (length bs)) [
  | inl l ↦ All-get_or (λ (b : ℕ). b < 2 ^ 8) bs i 0 l h
  | inr l ↦ omega (arith, get_or_past bs i 0 l)
]

chosen : (t : Bool) (a b : ℕ) → a < 2 ^ 8 → b < 2 ^ 8 → (if t then a else b) < 2 ^ 8
chosen true a b g h = g
chosen false a b g h = h

piece_byte-small : (ps : List Piece) (x : ℕ) → All (λ p. IsBytes p.bytes.items) ps → piece_byte ps x < 2 ^ 8
piece_byte-small [] x h = omega arith
piece_byte-small (p ∷ ps) x h =
    chosen (in_range p.start (length p.bytes.items) x) (get_or p.bytes.items (x - p.start) 0) (piece_byte ps x)
    (byte_at p.bytes.items (x - p.start) (All-head (λ (q : Piece). IsBytes q.bytes.items) p ps h)) (piece_byte-small ps x (λ k d l. h (suc k) d (omega (arith, l))))

pub bytes_from-small : (ps : List Piece) (a n : ℕ) → All (λ p. IsBytes p.bytes.items) ps → IsBytes (bytes_from ps a n)
bytes_from-small ps a n h = All-from_get_or (λ (b : ℕ). b < 2 ^ 8) (bytes_from ps a n) 0 (λ i l.
    omega (arith, get_or-bytes_from ps a n i (omega (arith, l, length-bytes_from ps a n)), piece_byte-small ps (a + i) h))

pub file_bytes : (file : List ℕ) → ((i : ℕ) → get_or file i 0 < 2 ^ 8) → IsBytes file
file_bytes file h = All-from_get_or (λ (b : ℕ). b < 2 ^ 8) file 0 (λ i l. h i)
