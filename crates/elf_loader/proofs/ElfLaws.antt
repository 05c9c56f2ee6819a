-- The tests of an ELF file, one after another, answer the least cause that stands.
use Rattle.std.proofs.Common.{◌≡◌, ◌≢◌, ℕ, ◌+◌, ◌*◌, ◌<◌, ◌≤◌, ◌==◌, ◌&&◌, ◌||◌, max, Bool, true, false, not, nat_lt, List, [], ◌∷◌, length, Ok, Err, refl, sym, ◌∙◌, ap, subst, inl, inr, ◌⊎◌, arith, Any}
use Rattle.std.proofs.lemmas.Bool.{cases_lt}
use Rattle.std.proofs.lemmas.Bool.Decides.{nat_tests}
use Rattle.std.proofs.lemmas.List.Folds.{Any-from_list_any, list_any-from_Any}
use Rattle.std.specs.List.{list_any}
use Rattle.pages.specs.Memory.{in_range}
use Rattle.pages.specs.declared.access.Range.{Range}
use Rattle.elf_loader.specs.Causes.{IsLeast}
use Rattle.elf_loader.specs.ElfCauses.{StandsInElf, has_magic, has_table, is_entry, is_little_64, is_past_file, is_past_memory, is_writable_code}
use Rattle.elf_loader.specs.ElfTests.{first_true, has_overlap, header_tests, segment_tests, shares}
use Rattle.elf_loader.specs.Segments.{SomeShare, code_of, entry_of, machine_of, segments_of, type_of}
use Rattle.host_io.specs.RunErrors.{image_number}
use Rattle.host_io.specs.declared.load_error.LoadError.{LoadError}
use Rattle.host_io.specs.declared.load_error.LoadError.TheVariants as causes
use Rattle.elf_loader.specs.declared.segment.Segment.{Segment}
use Rattle.elf_loader.proofs.Causes.{same_number}

-- ---- tests in the order of their numbers

-- no cause of a number below this one stands
abbrev pub NoneBelow : (LoadError → Type 0) → ℕ → Type 0
NoneBelow Stands n = (o : LoadError) → image_number o < n → Stands o → ⊥

-- the tests are those of the causes from one number to another
abbrev pub AreTests : (LoadError → Type 0) → ℕ → List (Bool × LoadError) → ℕ → Type 0
AreTests Stands lo [] hi = lo ≡ hi
AreTests Stands lo (t ∷ ts) hi = (image_number t.1 ≡ lo) × (t.0 ≡ true → Stands t.1) × (Stands t.1 → t.0 ≡ true) × AreTests Stands (lo + 1) ts hi

passed_one : (Stands : LoadError → Type 0) (lo : ℕ) (b : Bool) (e : LoadError) → b ≡ false → image_number e ≡ lo → (Stands e → b ≡ true) → NoneBelow Stands lo → NoneBelow Stands (lo + 1)
passed_one Stands lo b e is n from below o l s = elim (cases_lt (image_number o) lo) [
  | inl m ↦ below o m s
  | inr m ↦ cc (sym is ∙ from (subst Stands (same_number o e (omega (arith, l, m, n))) s))
]

refused_by : (Stands : LoadError → Type 0) (lo hi : ℕ) (b : Bool) (c : LoadError) (ts : List (Bool × LoadError)) (e : LoadError) → b ≡ b →
    AreTests Stands lo ((b, c) ∷ ts) hi → NoneBelow Stands lo → first_true ((b, c) ∷ ts) ≡ Err e →
    (AreTests Stands (lo + 1) ts hi → NoneBelow Stands (lo + 1) → first_true ts ≡ Err e → IsLeast Stands e) → IsLeast Stands e
refused_by Stands lo hi true c ts e _ are below is rest =
    let same : c ≡ e = (cc) in
    subst (IsLeast Stands) same (record { stands = are.1 refl; least = λ o l s. below o (omega (arith, l, are.0)) s })
refused_by Stands lo hi false c ts e _ are below is rest = rest are.3 (passed_one Stands lo false c refl are.0 are.2 below) is

pub refused : (Stands : LoadError → Type 0) (lo hi : ℕ) (ts : List (Bool × LoadError)) (e : LoadError) →
    AreTests Stands lo ts hi → NoneBelow Stands lo → first_true ts ≡ Err e → IsLeast Stands e
refused Stands lo hi [] e are below is = cc
refused Stands lo hi (t ∷ ts) e are below is = refused_by Stands lo hi t.0 t.1 ts e refl are below is (refused Stands (lo + 1) hi ts e)

passed_by : (Stands : LoadError → Type 0) (lo hi : ℕ) (b : Bool) (c : LoadError) (ts : List (Bool × LoadError)) (x : Unit {0}) →
    AreTests Stands lo ((b, c) ∷ ts) hi → NoneBelow Stands lo → first_true ((b, c) ∷ ts) ≡ Ok x →
    (AreTests Stands (lo + 1) ts hi → NoneBelow Stands (lo + 1) → first_true ts ≡ Ok x → NoneBelow Stands hi) → NoneBelow Stands hi
passed_by Stands lo hi true c ts x are below is rest = absurd (cc)
passed_by Stands lo hi false c ts x are below is rest = rest are.3 (passed_one Stands lo false c refl are.0 are.2 below) is

pub passed : (Stands : LoadError → Type 0) (lo hi : ℕ) (ts : List (Bool × LoadError)) (x : Unit {0}) →
    AreTests Stands lo ts hi → NoneBelow Stands lo → first_true ts ≡ Ok x → NoneBelow Stands hi
passed Stands lo hi [] x are below is = subst (NoneBelow Stands) are below
passed Stands lo hi (t ∷ ts) x are below is = passed_by Stands lo hi t.0 t.1 ts x are below is (passed Stands (lo + 1) hi ts x)

-- ---- segments that share an address

shared_address : (a n b m : ℕ) → (nat_lt 0 n && nat_lt 0 m && nat_lt a (b + m) && nat_lt b (a + n)) ≡ true → (in_range a n (max a b) ≡ true) × (in_range b m (max a b) ≡ true)
shared_address a n b m h = (first a n b m h, second a n b m h)
  where
    first : (a n b m : ℕ) → (nat_lt 0 n && nat_lt 0 m && nat_lt a (b + m) && nat_lt b (a + n)) ≡ true → in_range a n (max a b) ≡ true
    first a n b m h = grind (arith, nat_tests)

    second : (a n b m : ℕ) → (nat_lt 0 n && nat_lt 0 m && nat_lt a (b + m) && nat_lt b (a + n)) ≡ true → in_range b m (max a b) ≡ true
    second a n b m h = grind (arith, nat_tests)

shared_test : (a n b m x : ℕ) → in_range a n x ≡ true → in_range b m x ≡ true → (nat_lt 0 n && nat_lt 0 m && nat_lt a (b + m) && nat_lt b (a + n)) ≡ true
shared_test a n b m x h k = grind (arith, nat_tests)

or_true : (a b : Bool) → (a || b) ≡ true → (a ≡ true) ⊎ (b ≡ true)
or_true true b e = inl refl
or_true false b e = inr e

left_or : (a b : Bool) → a ≡ true → (a || b) ≡ true
left_or a b e = rw e refl

right_or : (a b : Bool) → b ≡ true → (a || b) ≡ true
right_or true b e = refl
right_or false b e = e

pub to_share : (ss : List Segment) → has_overlap ss ≡ true → SomeShare ss
to_share [] h = cc
to_share (s ∷ ss) h = elim (or_true (list_any (shares s) ss) (has_overlap ss) h) [
  | inl e ↦
      let found : Any (λ (t : Segment). shares s t ≡ true) ss = Any-from_list_any (shares s) ss e in
      let t : Segment = found.1 in
      let both : (in_range s.address s.memory_len (max s.address t.address) ≡ true) × (in_range t.address t.memory_len (max s.address t.address) ≡ true) =
      shared_address s.address s.memory_len t.address t.memory_len found.4 in
      inl (found.0, t, found.2, found.3, (max s.address t.address, both.0, both.1))
  | inr e ↦ inr (to_share ss e)
]

pub from_share : (ss : List Segment) → SomeShare ss → has_overlap ss ≡ true
from_share [] h = absurd h
from_share (s ∷ ss) (inl h) =
    let t : Segment = h.1 in
    left_or (list_any (shares s) ss) (has_overlap ss)
    (list_any-from_Any (shares s) ss (h.0, t, h.2, h.3, shared_test s.address s.memory_len t.address t.memory_len h.4.0 h.4.1 h.4.2))
from_share (s ∷ ss) (inr h) = right_or (list_any (shares s) ss) (has_overlap ss) (from_share ss h)

-- ---- the tests of an ELF file are those of its causes

not_true : (b : Bool) → not b ≡ true → b ≡ false
not_true true e = cc
not_true false e = refl

from_false : (b : Bool) → b ≡ false → not b ≡ true
from_false b e = rw e refl

differs : (n m : ℕ) → not (n == m) ≡ true → n ≢ m
differs n m e = grind (arith, nat_tests)

from_differs : (n m : ℕ) → n ≢ m → not (n == m) ≡ true
from_differs n m e = grind (arith, nat_tests)

less : (n m : ℕ) → nat_lt n m ≡ true → n < m
less n m e = grind (arith, nat_tests)

from_less : (n m : ℕ) → n < m → nat_lt n m ≡ true
from_less n m e = grind (arith, nat_tests)

pub header_in_order : (file : List ℕ) (pages : ℕ) → AreTests (StandsInElf file pages) 1 (header_tests file) 7
header_in_order file pages = (
  refl,
  less (length file) 64,
  from_less (length file) 64,
  (
    refl,
    not_true (has_magic file),
    from_false (has_magic file),
    (
      refl,
      not_true (is_little_64 file),
      from_false (is_little_64 file),
      (
        refl,
        differs (type_of file) 2,
        from_differs (type_of file) 2,
        (
          refl,
          differs (machine_of file) 243,
          from_differs (machine_of file) 243,
          (refl, not_true (has_table file), from_false (has_table file), refl),
        ),
      ),
    ),
  ),
)

pub segments_in_order : (file : List ℕ) (pages : ℕ) → AreTests (StandsInElf file pages) 7 (segment_tests (length file) (4096 * pages) (segments_of file)) 11
segments_in_order file pages =
    (refl, (λ e. e), (λ e. e), (refl, (λ e. e), (λ e. e), (refl, to_share (segments_of file), from_share (segments_of file), (refl, (λ e. e), (λ e. e), refl))))

some_number : (o : LoadError) → 1 ≤ image_number o
some_number causes.TooShort = omega arith
some_number causes.Magic = omega arith
some_number causes.Class = omega arith
some_number causes.Type = omega arith
some_number causes.Machine = omega arith
some_number causes.HeaderTable = omega arith
some_number causes.SegmentPastFile = omega arith
some_number causes.PastMemory = omega arith
some_number causes.SharedAddress = omega arith
some_number causes.WritableCode = omega arith
some_number causes.Entry = omega arith
some_number causes.FlatLength = omega arith
some_number causes.OutOfMemory = omega arith

pub none_below_one : (Stands : LoadError → Type 0) → NoneBelow Stands 1
none_below_one Stands o l s = omega (arith, l, some_number o)

none_from_twelve : (file : List ℕ) (pages : ℕ) (o : LoadError) → 12 ≤ image_number o → StandsInElf file pages o → ⊥
none_from_twelve file pages causes.TooShort l s = omega (arith, l)
none_from_twelve file pages causes.Magic l s = omega (arith, l)
none_from_twelve file pages causes.Class l s = omega (arith, l)
none_from_twelve file pages causes.Type l s = omega (arith, l)
none_from_twelve file pages causes.Machine l s = omega (arith, l)
none_from_twelve file pages causes.HeaderTable l s = omega (arith, l)
none_from_twelve file pages causes.SegmentPastFile l s = omega (arith, l)
none_from_twelve file pages causes.PastMemory l s = omega (arith, l)
none_from_twelve file pages causes.SharedAddress l s = omega (arith, l)
none_from_twelve file pages causes.WritableCode l s = omega (arith, l)
none_from_twelve file pages causes.Entry l s = omega (arith, l)
none_from_twelve file pages causes.FlatLength l s = s
none_from_twelve file pages causes.OutOfMemory l s = s

-- ---- the three parts of the loader

pub header_refused : (file : List ℕ) (pages : ℕ) (e : LoadError) → Err e ≡ first_true (header_tests file) → IsLeast (StandsInElf file pages) e
header_refused file pages e is = refused (StandsInElf file pages) 1 7 (header_tests file) e (header_in_order file pages) (none_below_one (StandsInElf file pages)) (sym is)

pub header_passed : (file : List ℕ) (pages : ℕ) (x : Unit {0}) → Ok x ≡ first_true (header_tests file) → NoneBelow (StandsInElf file pages) 7
header_passed file pages x is = passed (StandsInElf file pages) 1 7 (header_tests file) x (header_in_order file pages) (none_below_one (StandsInElf file pages)) (sym is)

-- the tests as the loader made them are those of the file's segments
same_tests : (file : List ℕ) (pages m : ℕ) (ss : List Segment) → m ≡ 4096 * pages → ss ≡ segments_of file →
    first_true (segment_tests (length file) m ss) ≡ first_true (segment_tests (length file) (4096 * pages) (segments_of file))
same_tests file pages m ss n same =
    ap (λ (k : ℕ). first_true (segment_tests (length file) k ss)) n ∙ ap (λ (v : List Segment). first_true (segment_tests (length file) (4096 * pages) v)) same

pub segments_refused : (file : List ℕ) (pages m : ℕ) (ss : List Segment) (x : Unit {0}) (e : LoadError) → m ≡ 4096 * pages → ss ≡ segments_of file → Ok x ≡ first_true (header_tests file) →
    Err e ≡ first_true (segment_tests (length file) m ss) → IsLeast (StandsInElf file pages) e
segments_refused file pages m ss x e n same h is =
    refused (StandsInElf file pages) 7 11 (segment_tests (length file) (4096 * pages) (segments_of file)) e (segments_in_order file pages) (header_passed file pages x h)
    (sym (is ∙ same_tests file pages m ss n same))

pub segments_passed : (file : List ℕ) (pages m : ℕ) (ss : List Segment) (x y : Unit {0}) → m ≡ 4096 * pages → ss ≡ segments_of file → Ok x ≡ first_true (header_tests file) →
    Ok y ≡ first_true (segment_tests (length file) m ss) → NoneBelow (StandsInElf file pages) 11
segments_passed file pages m ss x y n same h is =
    passed (StandsInElf file pages) 7 11 (segment_tests (length file) (4096 * pages) (segments_of file)) y (segments_in_order file pages) (header_passed file pages x h)
    (sym (is ∙ same_tests file pages m ss n same))

-- the entry's test as the loader made it is that of the file's
pub same_entry : (file : List ℕ) (ss : List Segment) (code : List Range) (entry : ℕ) (b : Bool) → ss ≡ segments_of file → code ≡ code_of ss → entry ≡ entry_of file → b ≡ is_entry code entry →
    is_entry (code_of (segments_of file)) (entry_of file) ≡ b
same_entry file ss code entry b same is e t =
    sym (t ∙ ap (λ (r : List Range). is_entry r entry) is ∙ ap (λ (n : ℕ). is_entry (code_of ss) n) e ∙ ap (λ (v : List Segment). is_entry (code_of v) (entry_of file)) same)

pub entry_refused : (file : List ℕ) (pages : ℕ) → NoneBelow (StandsInElf file pages) 11 → is_entry (code_of (segments_of file)) (entry_of file) ≡ false → IsLeast (StandsInElf file pages) causes.Entry
entry_refused file pages below is = record { stands = is; least = below }

pub none_stands : (file : List ℕ) (pages : ℕ) → NoneBelow (StandsInElf file pages) 11 → is_entry (code_of (segments_of file)) (entry_of file) ≡ true →
    (o : LoadError) → StandsInElf file pages o → ⊥
none_stands file pages below is o s = elim (cases_lt (image_number o) 11) [
  | inl l ↦ below o l s
  | inr l ↦ elim (cases_lt (image_number o) 12) [
    | inl m ↦ entry_stands (subst (StandsInElf file pages) (same_number o causes.Entry (omega (arith, l, m))) s)
    | inr m ↦ none_from_twelve file pages o m s
  ]
]
  where
    entry_stands : is_entry (code_of (segments_of file)) (entry_of file) ≡ false → ⊥
    entry_stands e = cc (sym is ∙ e)

-- ---- what holds of the segments of an accepted file

ok_first : (b : Bool) (c : LoadError) (ts : List (Bool × LoadError)) (x : Unit {0}) → Ok x ≡ first_true ((b, c) ∷ ts) → (b ≡ false) × (Ok x ≡ first_true ts)
ok_first true c ts x e = absurd (cc)
ok_first false c ts x e = (refl, e)

pub record Clear (file memory : ℕ) (ss : List Segment) : Type 0 where
  pub past_file : list_any (is_past_file file) ss ≡ false
  pub past_memory : list_any (is_past_memory memory) ss ≡ false
  pub overlap : has_overlap ss ≡ false

clear_tests : (file memory : ℕ) (ss : List Segment) (x : Unit {0}) → Ok x ≡ first_true (segment_tests file memory ss) → Clear file memory ss
clear_tests file memory ss x e =
    let overlap : List (Bool × LoadError) = (has_overlap ss, causes.SharedAddress) ∷ (list_any is_writable_code ss, causes.WritableCode) ∷ [] in
    let past : List (Bool × LoadError) = (list_any (is_past_memory memory) ss, causes.PastMemory) ∷ overlap in
    let one = ok_first (list_any (is_past_file file) ss) causes.SegmentPastFile past x e in
    let two = ok_first (list_any (is_past_memory memory) ss) causes.PastMemory overlap x one.1 in
    let three = ok_first (has_overlap ss) causes.SharedAddress ((list_any is_writable_code ss, causes.WritableCode) ∷ []) x two.1 in
    record { past_file = one.0; past_memory = two.0; overlap = three.0 }

pub clear : (file : List ℕ) (pages m : ℕ) (ss : List Segment) (x : Unit {0}) → m ≡ 4096 * pages → ss ≡ segments_of file →
    Ok x ≡ first_true (segment_tests (length file) m ss) → Clear (length file) (4096 * pages) (segments_of file)
clear file pages m ss x n same e = clear_tests (length file) (4096 * pages) (segments_of file) x (e ∙ same_tests file pages m ss n same)
