-- One step of reading the program headers, and one of copying the segments' bytes.
use Rattle.std.proofs.Common.{◌≡◌, ◌≢◌, ℕ, zero, suc, ◌+◌, ◌-◌, ◌<◌, ◌≤◌, ◌==◌, ◌||◌, Bool, true, false, nat_lt, List, [], ◌∷◌, ◌++◌, length, take, drop, get_or, refl, sym, ◌∙◌, ap, subst, arith, append_assoc}
use Rattle.std.proofs.lemmas.Bool.Decides.{nat_tests}
use Rattle.std.proofs.lemmas.List.{take_more}
use Rattle.std.specs.List.{list_any}
use Rattle.pages.specs.declared.access.Piece.{Piece}
use Rattle.elf_loader.specs.ElfCauses.{is_past_file}
use Rattle.elf_loader.specs.ElfTests.{ArePieces}
use Rattle.elf_loader.specs.Segments.{kind_at, segment_at, segments_from}
use Rattle.elf_loader.specs.declared.segment.Segment.{Segment}

from_loaded : (file : List ℕ) (at m n : ℕ) → kind_at file at ≡ 1 → n ≡ suc m → segments_from file at n ≡ segment_at file at ∷ segments_from file (at + 56) m
from_loaded file at m n k s = ap (segments_from file at) s ∙ rw (is_one (kind_at file at) k) refl
  where
    is_one : (n : ℕ) → n ≡ 1 → (n == 1) ≡ true
    is_one n e = grind (arith, nat_tests)

from_other : (file : List ℕ) (at m n : ℕ) → kind_at file at ≢ 1 → n ≡ suc m → segments_from file at n ≡ segments_from file (at + 56) m
from_other file at m n k s = ap (segments_from file at) s ∙ rw (not_one (kind_at file at) k) refl
  where
    not_one : (n : ℕ) → n ≢ 1 → (n == 1) ≡ false
    not_one n e = grind (arith, nat_tests)

pub loaded_header : (file : List ℕ) (at m n : ℕ) (old new out : List Segment) → kind_at file at ≡ 1 → new ≡ old ++ segment_at file at ∷ [] → n ≡ suc m →
    old ++ segments_from file at n ≡ out → new ++ segments_from file (at + 56) m ≡ out
loaded_header file at m n old new out k is s e =
    let rest : List Segment = segments_from file (at + 56) m in
    ap (λ (v : List Segment). v ++ rest) is ∙ append_assoc old (segment_at file at ∷ []) rest
    ∙ ap (λ (v : List Segment). old ++ v) (sym (from_loaded file at m n k s)) ∙ e

pub other_header : (file : List ℕ) (at m n : ℕ) (old new out : List Segment) → kind_at file at ≢ 1 → new ≡ old → n ≡ suc m →
    old ++ segments_from file at n ≡ out → new ++ segments_from file (at + 56) m ≡ out
other_header file at m n old new out k is s e =
    ap (λ (v : List Segment). v ++ segments_from file (at + 56) m) is ∙ ap (λ (v : List Segment). old ++ v) (sym (from_other file at m n k s)) ∙ e

-- ---- segments that lie in the file

pub or_false : (a b : Bool) → (a || b) ≡ false → (a ≡ false) × (b ≡ false)
or_false true b e = cc
or_false false b e = (refl, e)

pub none_passes : {X : Type 0} (p : X → Bool) (xs : List X) (i : ℕ) (d : X) → list_any p xs ≡ false → i < length xs → p (get_or xs i d) ≡ false
none_passes p [] i d h l = absurd (omega (arith, l))
none_passes p (x ∷ xs) zero d h l = (or_false (p x) (list_any p xs) h).0
none_passes p (x ∷ xs) (suc i) d h l = none_passes p xs i d (or_false (p x) (list_any p xs) h).1 (omega (arith, l))

-- a segment's bytes lie in the file, and are no more than those in memory
pub record InFile (n : ℕ) (s : Segment) : Type 0 where
  pub within : s.offset + s.file_len ≤ n
  pub less : s.file_len ≤ s.memory_len

pub in_file : (n : ℕ) (s : Segment) → is_past_file n s ≡ false → InFile n s
in_file n s h = record { within = first n s.offset s.file_len s.memory_len h; less = second n s.offset s.file_len s.memory_len h }
  where
    first : (n o f m : ℕ) → (nat_lt n (o + f) || nat_lt m f) ≡ false → o + f ≤ n
    first n o f m h = grind (arith, nat_tests)

    second : (n o f m : ℕ) → (nat_lt n (o + f) || nat_lt m f) ≡ false → f ≤ m
    second n o f m h = grind (arith, nat_tests)

pub in_file_at : (n : ℕ) (ss : List Segment) (i : ℕ) (d s : Segment) → list_any (is_past_file n) ss ≡ false → i < length ss → s ≡ get_or ss i d → InFile n s
in_file_at n ss i d s h l e = in_file n s (ap (is_past_file n) e ∙ none_passes (is_past_file n) ss i d h l)

-- ---- one more piece

pieces-push : (file : List ℕ) (ss : List Segment) (ps : List Piece) (s : Segment) (p : Piece) → ArePieces file ss ps →
    p.start ≡ s.address → p.bytes.items ≡ take s.file_len (drop s.offset file) → ArePieces file (ss ++ s ∷ []) (ps ++ p ∷ [])
pieces-push file [] [] s p h a b = (a, b, tt)
pieces-push file [] (q ∷ ps) s p h a b = absurd h
pieces-push file (t ∷ ss) [] s p h a b = absurd h
pieces-push file (t ∷ ss) (q ∷ ps) s p h a b = (h.0, h.1, pieces-push file ss ps s p h.2 a b)

-- what a loop reads where there is no segment
abbrev pub no_segment : Segment
no_segment = record { flags = 0; offset = 0; address = 0; file_len = 0; memory_len = 0 }

pub one_more_piece : (file : List ℕ) (ss : List Segment) (old new : List Piece) (i : ℕ) (s : Segment) (p : Piece) → i < length ss → s ≡ get_or ss i no_segment →
    ArePieces file (take i ss) old → new ≡ old ++ p ∷ [] → p.start ≡ s.address → p.bytes.items ≡ take (s.offset + s.file_len - s.offset) (drop s.offset file) →
    ArePieces file (take (i + 1) ss) new
one_more_piece file ss old new i s p l at h is a b =
    let less : s.offset + s.file_len - s.offset ≡ s.file_len = omega arith in
    subst (ArePieces file (take (i + 1) ss)) (sym is)
    (subst (λ (v : List Segment). ArePieces file v (old ++ p ∷ [])) (ap (λ (x : Segment). take i ss ++ x ∷ []) at ∙ sym (take_more ss i no_segment l))
    (pieces-push file (take i ss) old s p h a (b ∙ ap (λ (n : ℕ). take n (drop s.offset file)) less)))
