-- The bytes that memory opened with, as a list.
use Rattle.std.proofs.Common.{◌≡◌, ℕ, ◌+◌, ◌-◌, ◌≤◌, Bool, false, if◌then◌else◌, List, [], ◌∷◌, length, map, inl, inr, refl, sym, ap, ◌∙◌, arith, All, zero-add}
use Rattle.std.specs.List.{range_with_len, slice_index}
use Rattle.std.proofs.lemmas.Bool.{cases_lt}
use Rattle.std.proofs.lemmas.Bool.Decides.{nat_tests}
use Rattle.std.proofs.lemmas.List.{get_or_past}
use Rattle.std.proofs.lemmas.List.Elements.{All-head}
use Rattle.std.proofs.lemmas.List.FromFn.{get_or-map-range_with_len, length-map-range_with_len}
use Rattle.pages.specs.declared.access.Piece.{Piece}
use Rattle.pages.specs.Initial.{bytes_from, piece_byte}
use Rattle.pages.specs.Memory.{in_range}
use Rattle.round_schedule.proofs.Phases.{All-tail}
use Rattle.trace.specs.Traced.{laid, opening_at, opening_bytes, Laid}

pub of_pieces : (ps : List Piece) (x : ℕ) → opening_at (map laid ps) x ≡ piece_byte ps x
of_pieces [] x = refl
of_pieces (p ∷ ps) x = ap (λ (b : ℕ). if in_range p.start (length p.bytes.items) x then slice_index p.bytes.items (x - p.start) else b) (of_pieces ps x)

range_ends : (a n x m : ℕ) → a + n ≤ m → m ≤ x → in_range a n x ≡ false
range_ends a n x m h l = grind (arith, nat_tests)

-- no byte lies past the end of memory
pub none_beyond : (ps : List Piece) (n x : ℕ) → All (λ (p : Piece). p.start + length p.bytes.items ≤ n) ps → n ≤ x → opening_at (map laid ps) x ≡ 0
none_beyond [] n x h l = refl
none_beyond (p ∷ ps) n x h l =
    ap (λ (b : Bool). if b then slice_index p.bytes.items (x - p.start) else opening_at (map laid ps) x)
    (range_ends p.start (length p.bytes.items) x n (All-head (λ (q : Piece). q.start + length q.bytes.items ≤ n) p ps h) l)
    ∙ none_beyond ps n x (All-tail (λ (q : Piece). q.start + length q.bytes.items ≤ n) p ps h) l

map_alike : (f g : ℕ → ℕ) (xs : List ℕ) → ((x : ℕ) → f x ≡ g x) → map f xs ≡ map g xs
map_alike f g [] h = refl
map_alike f g (x ∷ xs) h = ap (λ (y : ℕ). y ∷ map f xs) (h x) ∙ ap (λ (ys : List ℕ). g x ∷ ys) (map_alike f g xs h)

-- the pieces' bytes are those that memory opened with
pub bytes_of_pieces : (ps : List Piece) (n : ℕ) → opening_bytes (map laid ps) n ≡ bytes_from ps 0 n
unfolding opening_bytes bytes_from
bytes_of_pieces ps n = map_alike (opening_at (map laid ps)) (piece_byte ps) (range_with_len 0 n) (of_pieces ps)

pub opening_is : (ps : List Laid) (n : ℕ) → ((x : ℕ) → n ≤ x → opening_at ps x ≡ 0) → (x : ℕ) → opening_at ps x ≡ slice_index (opening_bytes ps n) x
unfolding opening_bytes
opening_is ps n beyond x = elim (cases_lt x n) [
  | inl l ↦ sym (get_or-map-range_with_len (opening_at ps) 0 n x x 0 l (zero-add x))
  | inr g ↦ beyond x g ∙ sym (get_or_past (map (opening_at ps) (range_with_len 0 n)) x 0 (omega (arith, length-map-range_with_len (opening_at ps) 0 n, g)))
]
