-- The pieces of an ELF file's segments make its image.
use Rattle.std.proofs.Common.{◌≡◌, ℕ, ◌+◌, ◌-◌, ◌*◌, ◌%◌, ◌<◌, ◌≤◌, ◌==◌, ◌&&◌, ◌^◌, Bool, true, false, nat_lt, if◌then◌else◌, List, [], ◌∷◌, length, map, filter, take, drop, get_or, refl, sym, ◌∙◌, ap, subst, arith, All, AllPairs, length-take-le, length-drop}
use Rattle.std.proofs.lemmas.Bool.Decides.{nat_tests}
use Rattle.std.proofs.lemmas.List.{get_or-drop, get_or-take}
use Rattle.std.proofs.lemmas.List.Elements.{All-cons, All-take, All-drop}
use Rattle.std.proofs.lemmas.List.Kept.{AllPairs-cons}
use Rattle.std.specs.List.{list_any, range_with_len}
use Rattle.pages.specs.Initial.{bytes_from, piece_byte}
use Rattle.pages.specs.Memory.{IsBytes, all_code, in_range}
use Rattle.pages.specs.declared.access.Piece.{Piece}
use Rattle.pages.specs.declared.access.Range.{Range}
use Rattle.pages.specs.declared.pages.TheConstants.{MOST_PAGES}
use Rattle.elf_loader.specs.Elf.{elf_image}
use Rattle.elf_loader.specs.ElfCauses.{is_entry, is_past_file, is_past_memory}
use Rattle.elf_loader.specs.ElfTests.{ArePieces, has_overlap, shares}
use Rattle.elf_loader.specs.Image.{AreApart, IsImage}
use Rattle.elf_loader.specs.Segments.{code_of, entry_of, is_executable, memory_range, segments_byte, segments_of}
use Rattle.elf_loader.specs.declared.segment.Segment.{Segment}
use Rattle.elf_loader.proofs.FlatImage.{map_same}
use Rattle.elf_loader.proofs.Reading.{InFile, in_file, or_false}

All-none : {X : Type 0} (P : X → Type 0) → All P []
All-none P = λ k d l. absurd (omega (arith, l))

-- a segment lies in memory
in_memory : (m : ℕ) (s : Segment) → is_past_memory m s ≡ false → s.address + s.memory_len ≤ m
in_memory m s h = by_test m (s.address + s.memory_len) h
  where
    by_test : (m n : ℕ) → nat_lt m n ≡ false → n ≤ m
    by_test m n h = grind (arith, nat_tests)

held : (file : List ℕ) (s : Segment) → InFile (length file) s → length (take s.file_len (drop s.offset file)) ≡ s.file_len
held file s h = length-take-le s.file_len (drop s.offset file) (omega (arith, h.within, length-drop s.offset file))

length_held : (file : List ℕ) (s : Segment) (p : Piece) → InFile (length file) s → p.bytes.items ≡ take s.file_len (drop s.offset file) → length p.bytes.items ≡ s.file_len
length_held file s p h b = ap length b ∙ held file s h

-- ---- the pieces are an image's

pieces_bytes : (file : List ℕ) (ss : List Segment) (ps : List Piece) → IsBytes file → ArePieces file ss ps → All (λ p. IsBytes p.bytes.items) ps
pieces_bytes file [] [] small h = All-none (λ (p : Piece). IsBytes p.bytes.items)
pieces_bytes file [] (p ∷ ps) small h = absurd h
pieces_bytes file (s ∷ ss) [] small h = absurd h
pieces_bytes file (s ∷ ss) (p ∷ ps) small h =
    All-cons (λ (p : Piece). IsBytes p.bytes.items) p ps
    (subst IsBytes (sym h.1) (All-take (λ (b : ℕ). b < 2 ^ 8) s.file_len (drop s.offset file) (All-drop (λ (b : ℕ). b < 2 ^ 8) s.offset file small)))
    (pieces_bytes file ss ps small h.2)

pieces_within : (file : List ℕ) (m : ℕ) (ss : List Segment) (ps : List Piece) → list_any (is_past_file (length file)) ss ≡ false → list_any (is_past_memory m) ss ≡ false →
    ArePieces file ss ps → All (λ p. p.start + length p.bytes.items ≤ m) ps
pieces_within file m [] [] f g h = All-none (λ (p : Piece). p.start + length p.bytes.items ≤ m)
pieces_within file m [] (p ∷ ps) f g h = absurd h
pieces_within file m (s ∷ ss) [] f g h = absurd h
pieces_within file m (s ∷ ss) (p ∷ ps) f g h =
    let fs = or_false (is_past_file (length file) s) (list_any (is_past_file (length file)) ss) f in
    let gs = or_false (is_past_memory m s) (list_any (is_past_memory m) ss) g in
    let inside : InFile (length file) s = in_file (length file) s fs.0 in
    All-cons (λ (p : Piece). p.start + length p.bytes.items ≤ m) p ps
    (omega (arith, h.0, length_held file s p inside h.1, inside.less, in_memory m s gs.0))
    (pieces_within file m ss ps fs.1 gs.1 h.2)

never_both : (a n b m k j x : ℕ) → (nat_lt 0 n && nat_lt 0 m && nat_lt a (b + m) && nat_lt b (a + n)) ≡ false → k ≤ n → j ≤ m → in_range a k x ≡ true → in_range b j x ≡ true → ⊥
never_both a n b m k j x h p q r t = grind (arith, nat_tests)

apart_from : (file : List ℕ) (s : Segment) (p : Piece) (ss : List Segment) (ps : List Piece) → InFile (length file) s → p.start ≡ s.address → length p.bytes.items ≡ s.file_len →
    list_any (is_past_file (length file)) ss ≡ false → list_any (shares s) ss ≡ false → ArePieces file ss ps → All (AreApart p) ps
apart_from file s p [] [] i a n f h k = All-none (AreApart p)
apart_from file s p [] (q ∷ qs) i a n f h k = absurd k
apart_from file s p (t ∷ ts) [] i a n f h k = absurd k
apart_from file s p (t ∷ ts) (q ∷ qs) i a n f h k =
    let fs = or_false (is_past_file (length file) t) (list_any (is_past_file (length file)) ts) f in
    let hs = or_false (shares s t) (list_any (shares s) ts) h in
    let inside : InFile (length file) t = in_file (length file) t fs.0 in
    All-cons (AreApart p) q qs
    (λ x u v. never_both s.address s.memory_len t.address t.memory_len (length p.bytes.items) (length q.bytes.items) x hs.0 (omega (arith, n, i.less)) (omega (arith, length_held file t q inside k.1, inside.less))
    (subst (λ (y : ℕ). in_range y (length p.bytes.items) x ≡ true) a u) (subst (λ (y : ℕ). in_range y (length q.bytes.items) x ≡ true) k.0 v))
    (apart_from file s p ts qs i a n fs.1 hs.1 k.2)

pieces_apart : (file : List ℕ) (ss : List Segment) (ps : List Piece) → list_any (is_past_file (length file)) ss ≡ false → has_overlap ss ≡ false →
    ArePieces file ss ps → AllPairs AreApart ps
pieces_apart file [] [] f o h = λ i j d l m. absurd (omega (arith, m))
pieces_apart file [] (p ∷ ps) f o h = absurd h
pieces_apart file (s ∷ ss) [] f o h = absurd h
pieces_apart file (s ∷ ss) (p ∷ ps) f o h =
    let fs = or_false (is_past_file (length file) s) (list_any (is_past_file (length file)) ss) f in
    let os = or_false (list_any (shares s) ss) (has_overlap ss) o in
    let inside : InFile (length file) s = in_file (length file) s fs.0 in
    AllPairs-cons AreApart p ps (apart_from file s p ss ps inside h.0 (length_held file s p inside h.1) fs.1 os.0 h.2) (pieces_apart file ss ps fs.1 os.1 h.2)

code_within : (m : ℕ) (ss : List Segment) → list_any (is_past_memory m) ss ≡ false → All (λ r. r.start + r.len ≤ m) (code_of ss)
code_within m [] g = All-none (λ (r : Range). r.start + r.len ≤ m)
code_within m (s ∷ ss) g =
    let gs = or_false (is_past_memory m s) (list_any (is_past_memory m) ss) g in
    by_flag (is_executable s) (in_memory m s gs.0) (code_within m ss gs.1)
  where
    by_flag : (b : Bool) → s.address + s.memory_len ≤ m → All (λ r. r.start + r.len ≤ m) (code_of ss) →
        All (λ r. r.start + r.len ≤ m) (map memory_range (if b then s ∷ filter is_executable ss else filter is_executable ss))
    by_flag true h rest = All-cons (λ (r : Range). r.start + r.len ≤ m) (memory_range s) (code_of ss) h rest
    by_flag false h rest = rest

entry_aligned : (code : List Range) (e : ℕ) → is_entry code e ≡ true → e % 4 ≡ 0
entry_aligned code e h = by_test (e % 4) (all_code code e 4) h
  where
    by_test : (n : ℕ) (b : Bool) → ((n == 0) && b) ≡ true → n ≡ 0
    by_test n b h = grind (arith, nat_tests)

entry_fetched : (code : List Range) (e : ℕ) → is_entry code e ≡ true → all_code code e 4 ≡ true
entry_fetched code e h = second (e % 4 == 0) (all_code code e 4) h
  where
    second : (a b : Bool) → (a && b) ≡ true → b ≡ true
    second true b h = h
    second false b h = cc

pub elf_is_image : (file : List ℕ) (pages : ℕ) (ss : List Segment) (ps : List Piece) (code : List Range) (entry : ℕ) → 1 ≤ pages → pages ≤ MOST_PAGES → IsBytes file →
    list_any (is_past_file (length file)) ss ≡ false → list_any (is_past_memory (4096 * pages)) ss ≡ false → has_overlap ss ≡ false → ArePieces file ss ps →
    code ≡ code_of ss → is_entry code entry ≡ true → IsImage ps code entry pages
elf_is_image file pages ss ps code entry some few small f g o h is e = record {
  some_pages = some;
  few_pages = few;
  bytes = pieces_bytes file ss ps small h;
  within = pieces_within file (4096 * pages) ss ps f g h;
  apart = pieces_apart file ss ps f o h;
  code_within = subst (All (λ (r : Range). r.start + r.len ≤ 4096 * pages)) (sym is) (code_within (4096 * pages) ss g);
  aligned = entry_aligned code entry e;
  fetched = entry_fetched code entry e;
}

-- ---- the image's bytes

chosen : (t : Bool) (a b c d : ℕ) → (t ≡ true → a ≡ b) → c ≡ d → (if t then a else c) ≡ (if t then b else d)
chosen true a b c d h k = h refl
chosen false a b c d h k = k

taken : (file : List ℕ) (o n i : ℕ) → i < n → get_or (take n (drop o file)) i 0 ≡ get_or file (o + i) 0
taken file o n i l = get_or-take n (drop o file) i 0 l ∙ get_or-drop o file i 0

below : (a n x : ℕ) → in_range a n x ≡ true → x - a < n
below a n x h = grind (arith, nat_tests)

piece_byte-same : (file : List ℕ) (ss : List Segment) (ps : List Piece) (x : ℕ) → list_any (is_past_file (length file)) ss ≡ false → ArePieces file ss ps →
    piece_byte ps x ≡ segments_byte file ss x
piece_byte-same file [] [] x f h = refl
piece_byte-same file [] (p ∷ ps) x f h = absurd h
piece_byte-same file (s ∷ ss) [] x f h = absurd h
piece_byte-same file (s ∷ ss) (p ∷ ps) x f h =
    let fs = or_false (is_past_file (length file) s) (list_any (is_past_file (length file)) ss) f in
    let inside : InFile (length file) s = in_file (length file) s fs.0 in
    ap (λ (a : ℕ). if in_range a (length p.bytes.items) x then get_or p.bytes.items (x - a) 0 else piece_byte ps x) h.0
    ∙ ap (λ (n : ℕ). if in_range s.address n x then get_or p.bytes.items (x - s.address) 0 else piece_byte ps x) (length_held file s p inside h.1)
    ∙ ap (λ (bs : List ℕ). if in_range s.address s.file_len x then get_or bs (x - s.address) 0 else piece_byte ps x) h.1
    ∙ chosen (in_range s.address s.file_len x) (get_or (take s.file_len (drop s.offset file)) (x - s.address) 0) (get_or file (s.offset + (x - s.address)) 0)
    (piece_byte ps x) (segments_byte file ss x)
    (λ t. taken file s.offset s.file_len (x - s.address) (below s.address s.file_len x t)) (piece_byte-same file ss ps x fs.1 h.2)

elf_bytes : (file : List ℕ) (ss : List Segment) (ps : List Piece) (n : ℕ) → list_any (is_past_file (length file)) ss ≡ false → ArePieces file ss ps →
    bytes_from ps 0 n ≡ map (segments_byte file ss) (range_with_len 0 n)
unfolding bytes_from
elf_bytes file ss ps n f h = map_same (piece_byte ps) (segments_byte file ss) (range_with_len 0 n) (λ x. piece_byte-same file ss ps x f h)

pub elf_is : (file : List ℕ) (pages : ℕ) (ss : List Segment) (ps : List Piece) (code : List Range) (entry : ℕ) → list_any (is_past_file (length file)) ss ≡ false →
    ArePieces file ss ps → ss ≡ segments_of file → code ≡ code_of ss → entry ≡ entry_of file →
    record { bytes = bytes_from ps 0 (4096 * pages); code = code; entry = entry; pages = pages } ≡ elf_image file pages
unfolding elf_image
elf_is file pages ss ps code entry f h same is e =
    ap (λ (bs : List ℕ). record { bytes = bs; code = code; entry = entry; pages = pages }) (elf_bytes file ss ps (4096 * pages) f h)
    ∙ ap (λ (c : List Range). record { bytes = map (segments_byte file ss) (range_with_len 0 (4096 * pages)); code = c; entry = entry; pages = pages }) is
    ∙ ap (λ (n : ℕ). record { bytes = map (segments_byte file ss) (range_with_len 0 (4096 * pages)); code = code_of ss; entry = n; pages = pages }) e
    ∙ ap (λ (v : List Segment). record { bytes = map (segments_byte file v) (range_with_len 0 (4096 * pages)); code = code_of v; entry = entry_of file; pages = pages }) same
