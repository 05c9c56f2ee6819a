-- The image of a flat file.
use Rattle.std.proofs.Common.{◌≡◌, ℕ, ◌+◌, ◌-◌, ◌*◌, ◌%◌, ◌==◌, ◌<◌, ◌≤◌, Bool, true, false, if◌then◌else◌, List, [], ◌∷◌, ◌++◌, length, map, get_or, refl, sym, ◌∙◌, ap, subst, All, inl, inr, arith}
use Rattle.std.proofs.lemmas.Bool.{cases_lt}
use Rattle.std.proofs.lemmas.Bool.Decides.{nat_tests}
use Rattle.std.proofs.lemmas.List.{get_or_past}
use Rattle.std.proofs.lemmas.List.Elements.{All-cons}
use Rattle.std.specs.List.{range_with_len}
use Rattle.pages.specs.Initial.{bytes_from, piece_byte}
use Rattle.pages.specs.Memory.{IsBytes, all_code, in_range}
use Rattle.pages.specs.declared.access.Piece.{Piece}
use Rattle.pages.specs.declared.access.Range.{Range}
use Rattle.pages.specs.declared.pages.TheConstants.{MOST_PAGES}
use Rattle.elf_loader.specs.Causes.{IsLeast, StandsInFlat}
use Rattle.elf_loader.specs.Image.{IsImage, flat_image}
use Rattle.host_io.specs.RunErrors.{image_number}
use Rattle.host_io.specs.declared.load_error.LoadError.{LoadError}
use Rattle.host_io.specs.declared.load_error.LoadError.TheVariants as causes

pub map_same : {X : Type 0} (f g : ℕ → X) (xs : List ℕ) → ((x : ℕ) → f x ≡ g x) → map f xs ≡ map g xs
map_same f g [] h = refl
map_same f g (x ∷ xs) h = cc (h x, map_same f g xs h)

inside : (x n : ℕ) → x < n → in_range 0 n x ≡ true
inside x n l = grind (arith, nat_tests)

outside : (x n : ℕ) → n ≤ x → in_range 0 n x ≡ false
outside x n l = grind (arith, nat_tests)

from_zero : (file : List ℕ) (x : ℕ) → (if in_range 0 (length file) x then get_or file (x - 0) 0 else 0) ≡ get_or file x 0
from_zero file x = elim (cases_lt x (length file)) [
  | inl l ↦ ap (λ (t : Bool). if t then get_or file (x - 0) 0 else 0) (inside x (length file) l) ∙ ap (λ (y : ℕ). get_or file y 0) (less x)
  | inr l ↦ ap (λ (t : Bool). if t then get_or file (x - 0) 0 else 0) (outside x (length file) l) ∙ sym (get_or_past file x 0 l)
]
  where
    less : (x : ℕ) → x - 0 ≡ x
    less x = omega arith

one_piece : (start : ℕ) (bytes file : List ℕ) (x : ℕ) → start ≡ 0 → bytes ≡ file →
    (if in_range start (length bytes) x then get_or bytes (x - start) 0 else 0) ≡ get_or file x 0
one_piece start bytes file x z same =
    ap (λ (s : ℕ). if in_range s (length bytes) x then get_or bytes (x - s) 0 else 0) z
    ∙ ap (λ (bs : List ℕ). if in_range 0 (length bs) x then get_or bs (x - 0) 0 else 0) same
    ∙ from_zero file x

flat_bytes : (ps : List Piece) (p : Piece) (file : List ℕ) (n : ℕ) → ps ≡ p ∷ [] → p.start ≡ 0 → p.bytes.items ≡ file →
    bytes_from ps 0 n ≡ map (λ x. get_or file x 0) (range_with_len 0 n)
unfolding bytes_from
flat_bytes ps p file n one z same =
    ap (λ (qs : List Piece). map (piece_byte qs) (range_with_len 0 n)) one
    ∙ map_same (piece_byte (p ∷ [])) (λ x. get_or file x 0) (range_with_len 0 n) (λ x. one_piece p.start p.bytes.items file x z same)

pub flat_is : (ps : List Piece) (p : Piece) (code : List Range) (file : List ℕ) (pages : ℕ) → ps ≡ p ∷ [] → p.start ≡ 0 → p.bytes.items ≡ file →
    code ≡ record { start = 0; len = length file } ∷ [] →
    record { bytes = bytes_from ps 0 (4096 * pages); code = code; entry = 0; pages = pages } ≡ flat_image file pages
unfolding flat_image
flat_is ps p code file pages one z same ranges =
    ap (λ (bs : List ℕ). record { bytes = bs; code = code; entry = 0; pages = pages }) (flat_bytes ps p file (4096 * pages) one z same)
    ∙ ap (λ (rs : List Range). record { bytes = map (λ x. get_or file x 0) (range_with_len 0 (4096 * pages)); code = rs; entry = 0; pages = pages }) ranges

pub only_item : {X : Type 0} (ns xs : List X) (x : X) → ns ≡ [] → xs ≡ ns ++ x ∷ [] → xs ≡ x ∷ []
only_item {X = X} ns xs x none is = is ∙ ap (λ (ys : List X). ys ++ x ∷ []) none

in_code : (n : ℕ) → 4 ≤ n → all_code (record { start = 0; len = n } ∷ []) 0 4 ≡ true
in_code n h = grind (arith, nat_tests)

one_is_image : (p : Piece) (file : List ℕ) (pages : ℕ) → p.start ≡ 0 → p.bytes.items ≡ file → 1 ≤ pages → pages ≤ MOST_PAGES →
    IsBytes file → length file ≤ 4096 * pages → 4 ≤ length file → IsImage (p ∷ []) (record { start = 0; len = length file } ∷ []) 0 pages
one_is_image p file pages z same some few small fits long = record {
  some_pages = some;
  few_pages = few;
  bytes = All-one (λ (q : Piece). IsBytes q.bytes.items) p (subst IsBytes (sym same) small);
  within = All-one (λ (q : Piece). q.start + length q.bytes.items ≤ 4096 * pages) p (omega (arith, ap length same, z, fits));
  apart = λ i j d l m. absurd (omega (arith, l, m));
  code_within = All-one (λ (r : Range). r.start + r.len ≤ 4096 * pages) (record { start = 0; len = length file }) (omega (arith, fits));
  aligned = refl;
  fetched = in_code (length file) long;
}
  where
    All-one : {X : Type 0} (P : X → Type 0) (x : X) → P x → All P (x ∷ [])
    All-one P x h = All-cons P x [] h (λ k d l. absurd (omega (arith, l)))

pub flat_is_image : (ps : List Piece) (p : Piece) (code : List Range) (file : List ℕ) (pages : ℕ) → ps ≡ p ∷ [] → p.start ≡ 0 → p.bytes.items ≡ file →
    code ≡ record { start = 0; len = length file } ∷ [] → 1 ≤ pages → pages ≤ MOST_PAGES →
    IsBytes file → length file ≤ 4096 * pages → 4 ≤ length file → IsImage ps code 0 pages
flat_is_image ps p code file pages one z same ranges some few small fits long =
    subst (λ (qs : List Piece). IsImage qs code 0 pages) (sym one)
    (subst (λ (rs : List Range). IsImage (p ∷ []) rs 0 pages) (sym ranges) (one_is_image p file pages z same some few small fits long))

pub past_memory : (file : List ℕ) (pages : ℕ) → 4096 * pages < length file → IsLeast (StandsInFlat file pages) causes.PastMemory
past_memory file pages h = record { stands = h; least = below }
  where
    below : (other : LoadError) → image_number other < 8 → StandsInFlat file pages other → ⊥
    below causes.PastMemory l s = omega (arith, l)
    below causes.FlatLength l s = omega (arith, l)
    below causes.TooShort l s = s
    below causes.Magic l s = s
    below causes.Class l s = s
    below causes.Type l s = s
    below causes.Machine l s = s
    below causes.HeaderTable l s = s
    below causes.SegmentPastFile l s = s
    below causes.SharedAddress l s = s
    below causes.WritableCode l s = s
    below causes.Entry l s = s
    below causes.OutOfMemory l s = s

pub whole_words : (n : ℕ) → false ≡ (n == 0) → n % 4 ≡ 0 → 4 ≤ n
whole_words n e m = grind (arith, nat_tests)
