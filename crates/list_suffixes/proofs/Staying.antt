-- Of a list some stores stay, over what the others leave: the same bytes.
use Rattle.std.proofs.Common.{◌≡◌, ℕ, zero, suc, ◌+◌, ◌-◌, ◌<◌, ◌≤◌, ◌&&◌, nat_le, not, Bool, true, false, if◌then◌else◌, List, [], ◌∷◌, ◌++◌, length, get_or, refl, sym, ap, ◌∙◌, inl, inr, arith}
use Rattle.std.proofs.lemmas.Bool.{cases_lt, cond-false, cond-true, le-leb, lt-leb}
use Rattle.std.proofs.lemmas.List.{get_or_append_left}
use Rattle.all_endings.specs.StoreLists.{Stored, byte_at, byte_in, has_byte, last_place, later, no_store}
use Rattle.all_endings.specs.Tables.{memory_of}
use Rattle.all_endings.proofs.Times.{Rises}
use Rattle.list_suffixes.specs.Staying.{MayBeLaid, kept, kept_before, laid, last_laid, place_before, place_kept, stays_at}

-- ---- the last store to a byte

pub step_of : (m : List Stored) (x k : ℕ) (c : Bool) → has_byte (get_or m k no_store) x ≡ c → last_place m x (suc k) ≡ (if c then suc k else last_place m x k)
step_of m x k c e = ap (λ (d : Bool). if d then suc k else last_place m x k) e

pub last_within : (m : List Stored) (x t : ℕ) → last_place m x t ≤ t
last_within m x zero = omega arith
last_within m x (suc t) = by_test (has_byte (get_or m t no_store) x) (last_within m x t)
  where
    by_test : (c : Bool) → last_place m x t ≤ t → (if c then suc t else last_place m x t) ≤ suc t
    by_test true r = omega arith
    by_test false r = omega (arith, r)

-- a store that has the byte stands before the last place
pub last_least : (m : List Stored) (x t k : ℕ) → k < t → has_byte (get_or m k no_store) x ≡ true → k < last_place m x t
last_least m x zero k l wet = absurd (omega (arith, l))
last_least m x (suc t) k l wet = by_test (has_byte (get_or m t no_store) x) refl (λ i. last_least m x t k i wet)
  where
    by_test : (c : Bool) → has_byte (get_or m t no_store) x ≡ c → (k < t → k < last_place m x t) → k < (if c then suc t else last_place m x t)
    by_test true e before = l
    by_test false e before = elim (cases_lt k t) [
      | inl i ↦ before i
      | inr i ↦ let s : t ≡ k = omega (arith, i, l) in absurd (let q = ap (λ (j : ℕ). has_byte (get_or m j no_store) x) s in cc)
    ]

-- there is a store at the last place, and it has the byte
pub last_has : (m : List Stored) (x t j : ℕ) → last_place m x t ≡ suc j → has_byte (get_or m j no_store) x ≡ true
last_has m x zero j e = absurd (omega (arith, e))
last_has m x (suc t) j e = by_test (has_byte (get_or m t no_store) x) refl e (last_has m x t j)
  where
    by_test : (c : Bool) → has_byte (get_or m t no_store) x ≡ c → (if c then suc t else last_place m x t) ≡ suc j → (last_place m x t ≡ suc j → has_byte (get_or m j no_store) x ≡ true) → has_byte (get_or m j no_store) x ≡ true
    by_test true c e before = let s : j ≡ t = omega (arith, e) in ap (λ (i : ℕ). has_byte (get_or m i no_store) x) s ∙ c
    by_test false c e before = before e

-- ---- how many stay

pub kept_zero : (stays : List Bool) → kept_before stays 0 ≡ 0
kept_zero [] = refl
kept_zero (b ∷ stays) = refl

pub kept_rises : (stays : List Bool) → Rises (kept_before stays)
kept_rises [] p q l = l
kept_rises (b ∷ stays) zero q l = omega arith
kept_rises (b ∷ stays) (suc p) zero l = absurd (omega (arith, l))
kept_rises (true ∷ stays) (suc p) (suc q) l = let r = kept_rises stays p q (omega (arith, l)) in omega (arith, r)
kept_rises (false ∷ stays) (suc p) (suc q) l = kept_rises stays p q (omega (arith, l))

-- one more where it stays
pub kept_more : (stays : List Bool) (k : ℕ) → stays_at stays k ≡ true → kept_before stays (suc k) ≡ suc (kept_before stays k)
kept_more [] k e = refl
kept_more (true ∷ stays) zero e = ap suc (kept_zero stays)
kept_more (true ∷ stays) (suc k) e = ap suc (kept_more stays k e)
kept_more (false ∷ stays) zero e = absurd (cc)
kept_more (false ∷ stays) (suc k) e = kept_more stays k e

pub kept_same : (stays : List Bool) (k : ℕ) → stays_at stays k ≡ false → kept_before stays (suc k) ≡ kept_before stays k
kept_same [] k e = absurd (cc)
kept_same (true ∷ stays) zero e = absurd (cc)
kept_same (true ∷ stays) (suc k) e = ap suc (kept_same stays k e)
kept_same (false ∷ stays) zero e = kept_zero stays
kept_same (false ∷ stays) (suc k) e = kept_same stays k e

-- what isn't told stays
pub stays_past : (stays : List Bool) (k : ℕ) → length stays ≤ k → stays_at stays k ≡ true
stays_past [] k l = refl
stays_past (b ∷ stays) zero l = absurd (omega (arith, l))
stays_past (b ∷ stays) (suc k) l = stays_past stays k (omega (arith, l))

pub laid_within : (stays : List Bool) (k : ℕ) → stays_at stays k ≡ false → k < length stays
laid_within stays k e = elim (cases_lt k (length stays)) [ inl l ↦ l | inr l ↦ absurd (let s = stays_past stays k l in cc) ]

-- what stays is none that is laid into memory
pub stays_apart : (stays : List Bool) (j k : ℕ) → stays_at stays j ≡ true → stays_at stays k ≡ false → k ≤ j → k < j
stays_apart stays j k stay out l = elim (cases_lt k j) [ inl i ↦ i | inr i ↦ let s : k ≡ j = omega (arith, l, i) in absurd (let q = ap (stays_at stays) s in cc) ]

-- a place that stays counts for times behind it
pub kept_less : (stays : List Bool) (k t : ℕ) → stays_at stays k ≡ true → k < t → kept_before stays k < kept_before stays t
kept_less stays k t e l =
    let one = kept_more stays k e in
    let r = kept_rises stays (suc k) t (omega (arith, l)) in
    omega (arith, one, r)

-- ---- the lists

pub kept_append : (stays : List Bool) (m e : List Stored) → length stays ≤ length m → kept stays (m ++ e) ≡ kept stays m ++ e
kept_append [] m e l = refl
kept_append (b ∷ stays) [] e l = absurd (omega (arith, l))
kept_append (true ∷ stays) (s ∷ m) e l = ap (λ (q : List Stored). s ∷ q) (kept_append stays m e (omega (arith, l)))
kept_append (false ∷ stays) (s ∷ m) e l = kept_append stays m e (omega (arith, l))

pub laid_append : (stays : List Bool) (m e : List Stored) → length stays ≤ length m → laid stays (m ++ e) ≡ laid stays m
laid_append [] m e l = refl
laid_append (b ∷ stays) [] e l = absurd (omega (arith, l))
laid_append (true ∷ stays) (s ∷ m) e l = laid_append stays m e (omega (arith, l))
laid_append (false ∷ stays) (s ∷ m) e l = ap (λ (q : List Stored). s ∷ q) (laid_append stays m e (omega (arith, l)))

pub kept_length : (stays : List Bool) (m : List Stored) → length stays ≤ length m → length (kept stays m) ≡ kept_before stays (length m)
kept_length [] m l = refl
kept_length (b ∷ stays) [] l = refl
kept_length (true ∷ stays) (s ∷ m) l = ap suc (kept_length stays m (omega (arith, l)))
kept_length (false ∷ stays) (s ∷ m) l = kept_length stays m (omega (arith, l))

pub kept_later : (stays : List Bool) (m : List Stored) → length stays ≤ length m → kept_before stays (later m) ≡ later (kept stays m)
kept_later stays m l =
    let next : later m ≡ suc (length m) = omega arith in
    let many = kept_length stays m l in
    let one = kept_more stays (length m) (stays_past stays (length m) l) in
    let e = ap (kept_before stays) next in
    omega (arith, many, one, e)

pub kept_at : (stays : List Bool) (m : List Stored) (k : ℕ) → stays_at stays k ≡ true → get_or (kept stays m) (kept_before stays k) no_store ≡ get_or m k no_store
kept_at [] m k e = refl
kept_at (b ∷ stays) [] k e = refl
kept_at (true ∷ stays) (s ∷ m) zero e = refl
kept_at (true ∷ stays) (s ∷ m) (suc k) e = kept_at stays m k e
kept_at (false ∷ stays) (s ∷ m) zero e = absurd (cc)
kept_at (false ∷ stays) (s ∷ m) (suc k) e = kept_at stays m k e

-- ---- where one stood

pub before_stays : (stays : List Bool) (j : ℕ) → stays_at stays (place_before stays j) ≡ true
before_stays [] j = refl
before_stays (true ∷ stays) zero = refl
before_stays (true ∷ stays) (suc j) = before_stays stays j
before_stays (false ∷ stays) j = before_stays stays j

pub before_kept : (stays : List Bool) (j : ℕ) → kept_before stays (place_before stays j) ≡ j
before_kept [] j = refl
before_kept (true ∷ stays) zero = refl
before_kept (true ∷ stays) (suc j) = ap suc (before_kept stays j)
before_kept (false ∷ stays) j = before_kept stays j

pub kept_back : (stays : List Bool) (k : ℕ) → stays_at stays k ≡ true → place_before stays (kept_before stays k) ≡ k
kept_back [] k e = refl
kept_back (true ∷ stays) zero e = refl
kept_back (true ∷ stays) (suc k) e = ap suc (kept_back stays k e)
kept_back (false ∷ stays) zero e = absurd (cc)
kept_back (false ∷ stays) (suc k) e = ap suc (kept_back stays k e)

-- ---- the last one that is laid into memory

-- of the whole list
abbrev pub end_laid : List Bool → List Stored → ℕ → ℕ
end_laid stays m x = last_laid stays m x (length stays)

laid_step : (stays : List Bool) (m : List Stored) (x k : ℕ) (c d : Bool) → stays_at stays k ≡ c → has_byte (get_or m k no_store) x ≡ d →
    last_laid stays m x (suc k) ≡ (if not c && d then suc k else last_laid stays m x k)
laid_step stays m x k c d e f =
    ap (λ (b : Bool). if not b && has_byte (get_or m k no_store) x then suc k else last_laid stays m x k) e
    ∙ ap (λ (b : Bool). if not c && b then suc k else last_laid stays m x k) f

last_laid_within : (stays : List Bool) (m : List Stored) (x k : ℕ) → last_laid stays m x k ≤ k
last_laid_within stays m x zero = omega arith
last_laid_within stays m x (suc k) = by_test (not (stays_at stays k) && has_byte (get_or m k no_store) x) (last_laid_within stays m x k)
  where
    by_test : (c : Bool) → last_laid stays m x k ≤ k → (if c then suc k else last_laid stays m x k) ≤ suc k
    by_test true r = omega arith
    by_test false r = omega (arith, r)

pub end_within : (stays : List Bool) (m : List Stored) (x : ℕ) → end_laid stays m x ≤ length stays
end_within stays m x = last_laid_within stays m x (length stays)

laid_least : (stays : List Bool) (m : List Stored) (x t k : ℕ) → k < t → stays_at stays k ≡ false → has_byte (get_or m k no_store) x ≡ true → k < last_laid stays m x t
laid_least stays m x zero k l out wet = absurd (omega (arith, l))
laid_least stays m x (suc t) k l out wet = elim (cases_lt k t) [
  | inl i ↦ by_test (not (stays_at stays t) && has_byte (get_or m t no_store) x) (laid_least stays m x t k i out wet)
  | inr i ↦
      let s : t ≡ k = omega (arith, i, l) in
      let here = laid_step stays m x t false true (ap (stays_at stays) s ∙ out) (ap (λ (j : ℕ). has_byte (get_or m j no_store) x) s ∙ wet) in
      omega (arith, here, l)
]
  where
    by_test : (c : Bool) → k < last_laid stays m x t → k < (if c then suc t else last_laid stays m x t)
    by_test true r = l
    by_test false r = r

-- each one with the byte stands before
pub end_least : (stays : List Bool) (m : List Stored) (x k : ℕ) → stays_at stays k ≡ false → has_byte (get_or m k no_store) x ≡ true → k < end_laid stays m x
end_least stays m x k out wet = laid_least stays m x (length stays) k (laid_within stays k out) out wet

laid_has : (stays : List Bool) (m : List Stored) (x t j : ℕ) → last_laid stays m x t ≡ suc j → (stays_at stays j ≡ false) × (has_byte (get_or m j no_store) x ≡ true)
laid_has stays m x zero j e = absurd (omega (arith, e))
laid_has stays m x (suc t) j e = by_tests (stays_at stays t) (has_byte (get_or m t no_store) x) refl refl (laid_has stays m x t j)
  where
    by_tests : (c d : Bool) → stays_at stays t ≡ c → has_byte (get_or m t no_store) x ≡ d → (last_laid stays m x t ≡ suc j → (stays_at stays j ≡ false) × (has_byte (get_or m j no_store) x ≡ true)) →
        (stays_at stays j ≡ false) × (has_byte (get_or m j no_store) x ≡ true)
    by_tests false true c d before =
        let here = laid_step stays m x t false true c d in
        let s : j ≡ t = omega (arith, here, e) in (ap (stays_at stays) s ∙ c, ap (λ (i : ℕ). has_byte (get_or m i no_store) x) s ∙ d)
    by_tests true d c w before = before (sym (laid_step stays m x t true d c w) ∙ e)
    by_tests false false c d before = before (sym (laid_step stays m x t false false c d) ∙ e)

-- it is laid into memory, and has the byte
pub end_has : (stays : List Bool) (m : List Stored) (x j : ℕ) → end_laid stays m x ≡ suc j → (stays_at stays j ≡ false) × (has_byte (get_or m j no_store) x ≡ true)
end_has stays m x j e = laid_has stays m x (length stays) j e

-- it stands before each place that all of them stand before
pub end_at_most : (stays : List Bool) (m : List Stored) (x place : ℕ) → ((k : ℕ) → stays_at stays k ≡ false → has_byte (get_or m k no_store) x ≡ true → k < place) → end_laid stays m x ≤ place
end_at_most stays m x place before = by_end (end_laid stays m x) refl
  where
    by_end : (l : ℕ) → end_laid stays m x ≡ l → l ≤ place
    by_end zero e = omega arith
    by_end (suc k) e = let h = end_has stays m x k e in let b = before k h.0 h.1 in omega (arith, b)

-- a store that stays, and has the byte, stands behind it
pub end_before : (stays : List Bool) (m : List Stored) → MayBeLaid stays m → (x j : ℕ) → stays_at stays j ≡ true → has_byte (get_or m j no_store) x ≡ true → end_laid stays m x ≤ j
end_before stays m may x j stay wet =
    end_at_most stays m x j (λ k out w. elim (cases_lt j k) [ inl l ↦ absurd (may j k x l stay out wet w) | inr l ↦ stays_apart stays j k stay out l ])

-- ---- places

pub place_laid : (stays : List Bool) (m : List Stored) (x p : ℕ) → p ≤ end_laid stays m x → place_kept stays m x p ≡ 0
place_laid stays m x p l = cond-true (nat_le p (end_laid stays m x)) 0 (kept_before stays p) (le-leb p (end_laid stays m x) l)

pub place_stays : (stays : List Bool) (m : List Stored) (x p : ℕ) → end_laid stays m x < p → place_kept stays m x p ≡ kept_before stays p
place_stays stays m x p l = cond-false (nat_le p (end_laid stays m x)) 0 (kept_before stays p) (lt-leb p (end_laid stays m x) l)

pub place_zero : (stays : List Bool) (m : List Stored) (x : ℕ) → place_kept stays m x 0 ≡ 0
place_zero stays m x = place_laid stays m x 0 (omega arith)

pub place_rises : (stays : List Bool) (m : List Stored) (x : ℕ) → Rises (place_kept stays m x)
place_rises stays m x p q l = elim (cases_lt (end_laid stays m x) p) [
  | inr early ↦ let z = place_laid stays m x p early in omega (arith, z)
  | inl late ↦
      let e = place_stays stays m x p late in
      let f = place_stays stays m x q (omega (arith, late, l)) in
      let r = kept_rises stays p q l in
      omega (arith, e, f, r)
]

pub place_below : (stays : List Bool) (m : List Stored) (x p : ℕ) → place_kept stays m x p ≤ kept_before stays p
place_below stays m x p = elim (cases_lt (end_laid stays m x) p) [
  | inr early ↦ let z = place_laid stays m x p early in omega (arith, z)
  | inl late ↦ let e = place_stays stays m x p late in omega (arith, e)
]

laid_longer : (stays : List Bool) (m e : List Stored) (x k : ℕ) → k ≤ length m → last_laid stays (m ++ e) x k ≡ last_laid stays m x k
laid_longer stays m e x zero l = refl
laid_longer stays m e x (suc k) l =
    ap (λ (s : Stored). if not (stays_at stays k) && has_byte s x then suc k else last_laid stays (m ++ e) x k) (get_or_append_left m e no_store k (omega (arith, l)))
    ∙ ap (λ (p : ℕ). if not (stays_at stays k) && has_byte (get_or m k no_store) x then suc k else p) (laid_longer stays m e x k (omega (arith, l)))

pub place_longer : (stays : List Bool) (m e : List Stored) (x p : ℕ) → length stays ≤ length m → place_kept stays (m ++ e) x p ≡ place_kept stays m x p
place_longer stays m e x p l = ap (λ (q : ℕ). if nat_le p q then 0 else kept_before stays p) (laid_longer stays m e x (length stays) l)

-- ---- the last one that stays

-- where no store that stays has the byte between two times, the last one before is the same
kept_between : (stays : List Bool) (m : List Stored) (x t n : ℕ) → ((j : ℕ) → t ≤ j → j < t + n → stays_at stays j ≡ true → has_byte (get_or m j no_store) x ≡ true → ⊥) →
    last_place (kept stays m) x (kept_before stays (t + n)) ≡ last_place (kept stays m) x (kept_before stays t)
kept_between stays m x t zero none = let e : t + 0 ≡ t = omega arith in ap (λ (i : ℕ). last_place (kept stays m) x (kept_before stays i)) e
kept_between stays m x t (suc n) none =
    let next : t + suc n ≡ suc (t + n) = omega arith in
    ap (λ (i : ℕ). last_place (kept stays m) x (kept_before stays i)) next ∙ by_test (stays_at stays (t + n)) refl
    ∙ kept_between stays m x t n (λ j l i. none j l (omega (arith, i)))
  where
    dry : stays_at stays (t + n) ≡ true → (d : Bool) → has_byte (get_or m (t + n) no_store) x ≡ d → has_byte (get_or m (t + n) no_store) x ≡ false
    dry c true d = absurd (none (t + n) (omega arith) (omega arith) c d)
    dry c false d = d

    by_test : (c : Bool) → stays_at stays (t + n) ≡ c → last_place (kept stays m) x (kept_before stays (suc (t + n))) ≡ last_place (kept stays m) x (kept_before stays (t + n))
    by_test true c =
        ap (last_place (kept stays m) x) (kept_more stays (t + n) c)
        ∙ step_of (kept stays m) x (kept_before stays (t + n)) false (ap (λ (s : Stored). has_byte s x) (kept_at stays m (t + n) c) ∙ dry c (has_byte (get_or m (t + n) no_store) x) refl)
    by_test false c = ap (last_place (kept stays m) x) (kept_same stays (t + n) c)

-- none before a time
pub kept_none : (stays : List Bool) (m : List Stored) (x t : ℕ) → ((j : ℕ) → j < t → stays_at stays j ≡ true → has_byte (get_or m j no_store) x ≡ true → ⊥) → last_place (kept stays m) x (kept_before stays t) ≡ 0
kept_none stays m x t none =
    let e : 0 + t ≡ t = omega arith in
    sym (ap (λ (i : ℕ). last_place (kept stays m) x (kept_before stays i)) e) ∙ kept_between stays m x 0 t (λ j l i. none j (omega (arith, i)))
    ∙ ap (last_place (kept stays m) x) (kept_zero stays)

-- ---- what the others leave

-- of the first t stores so many are laid into memory
abbrev laid_before : List Bool → ℕ → ℕ
laid_before [] t = 0
laid_before (b ∷ stays) zero = 0
laid_before (true ∷ stays) (suc t) = laid_before stays t
laid_before (false ∷ stays) (suc t) = suc (laid_before stays t)

laid_zero : (stays : List Bool) → laid_before stays 0 ≡ 0
laid_zero [] = refl
laid_zero (b ∷ stays) = refl

laid_same : (stays : List Bool) (k : ℕ) → stays_at stays k ≡ true → laid_before stays (suc k) ≡ laid_before stays k
laid_same [] k e = refl
laid_same (true ∷ stays) zero e = laid_zero stays
laid_same (true ∷ stays) (suc k) e = laid_same stays k e
laid_same (false ∷ stays) zero e = absurd (cc)
laid_same (false ∷ stays) (suc k) e = ap suc (laid_same stays k e)

laid_more : (stays : List Bool) (k : ℕ) → stays_at stays k ≡ false → laid_before stays (suc k) ≡ suc (laid_before stays k)
laid_more [] k e = absurd (cc)
laid_more (true ∷ stays) zero e = absurd (cc)
laid_more (true ∷ stays) (suc k) e = laid_more stays k e
laid_more (false ∷ stays) zero e = ap suc (laid_zero stays)
laid_more (false ∷ stays) (suc k) e = ap suc (laid_more stays k e)

laid_at : (stays : List Bool) (m : List Stored) (k : ℕ) → stays_at stays k ≡ false → get_or (laid stays m) (laid_before stays k) no_store ≡ get_or m k no_store
laid_at [] m k e = absurd (cc)
laid_at (b ∷ stays) [] k e = refl
laid_at (true ∷ stays) (s ∷ m) zero e = absurd (cc)
laid_at (true ∷ stays) (s ∷ m) (suc k) e = laid_at stays m k e
laid_at (false ∷ stays) (s ∷ m) zero e = refl
laid_at (false ∷ stays) (s ∷ m) (suc k) e = laid_at stays m k e

laid_length : (stays : List Bool) (m : List Stored) → length stays ≤ length m → length (laid stays m) ≡ laid_before stays (length stays)
laid_length [] m l = refl
laid_length (b ∷ stays) [] l = absurd (omega (arith, l))
laid_length (true ∷ stays) (s ∷ m) l = laid_length stays m (omega (arith, l))
laid_length (false ∷ stays) (s ∷ m) l = ap suc (laid_length stays m (omega (arith, l)))

byte_laid : (stays : List Bool) (m : List Stored) (opening : ℕ → ℕ) (x t : ℕ) →
    byte_at (laid stays m) opening x (last_place (laid stays m) x (laid_before stays t)) ≡ byte_at m opening x (last_laid stays m x t)
byte_laid stays m opening x zero = ap (λ (i : ℕ). byte_at (laid stays m) opening x (last_place (laid stays m) x i)) (laid_zero stays)
byte_laid stays m opening x (suc t) = by_tests (stays_at stays t) (has_byte (get_or m t no_store) x) refl refl (byte_laid stays m opening x t)
  where
    by_tests : (c d : Bool) → stays_at stays t ≡ c → has_byte (get_or m t no_store) x ≡ d →
        byte_at (laid stays m) opening x (last_place (laid stays m) x (laid_before stays t)) ≡ byte_at m opening x (last_laid stays m x t) →
        byte_at (laid stays m) opening x (last_place (laid stays m) x (laid_before stays (suc t))) ≡ byte_at m opening x (last_laid stays m x (suc t))
    by_tests true d c w before =
        ap (λ (i : ℕ). byte_at (laid stays m) opening x (last_place (laid stays m) x i)) (laid_same stays t c)
        ∙ before ∙ ap (byte_at m opening x) (sym (laid_step stays m x t true d c w))
    by_tests false false c w before =
        ap (λ (i : ℕ). byte_at (laid stays m) opening x (last_place (laid stays m) x i)) (laid_more stays t c)
        ∙ ap (byte_at (laid stays m) opening x) (step_of (laid stays m) x (laid_before stays t) false (ap (λ (s : Stored). has_byte s x) (laid_at stays m t c) ∙ w))
        ∙ before ∙ ap (byte_at m opening x) (sym (laid_step stays m x t false false c w))
    by_tests false true c w before =
        ap (λ (i : ℕ). byte_at (laid stays m) opening x (last_place (laid stays m) x i)) (laid_more stays t c)
        ∙ ap (byte_at (laid stays m) opening x) (step_of (laid stays m) x (laid_before stays t) true (ap (λ (s : Stored). has_byte s x) (laid_at stays m t c) ∙ w))
        ∙ ap (λ (s : Stored). byte_in s x) (laid_at stays m t c) ∙ ap (byte_at m opening x) (sym (laid_step stays m x t false true c w))

-- memory has the byte of the last one that is laid there
pub memory_left : (stays : List Bool) (m : List Stored) (opening : ℕ → ℕ) (x : ℕ) → length stays ≤ length m → memory_of (laid stays m) opening x ≡ byte_at m opening x (end_laid stays m x)
memory_left stays m opening x l =
    ap (λ (i : ℕ). byte_at (laid stays m) opening x (last_place (laid stays m) x i)) (laid_length stays m l) ∙ byte_laid stays m opening x (length stays)

pub memory_untouched : (stays : List Bool) (m : List Stored) (opening : ℕ → ℕ) (x : ℕ) → length stays ≤ length m →
    ((k : ℕ) → k < length m → has_byte (get_or m k no_store) x ≡ true → ⊥) → memory_of (laid stays m) opening x ≡ opening x
memory_untouched stays m opening x l none = memory_left stays m opening x l ∙ by_end (end_laid stays m x) refl
  where
    by_end : (p : ℕ) → end_laid stays m x ≡ p → byte_at m opening x p ≡ opening x
    by_end zero e = refl
    by_end (suc k) e = absurd (let w = end_within stays m x in none k (omega (arith, w, l, e)) (end_has stays m x k e).1)

-- ---- the byte at a place

module _ (stays : List Bool) (m : List Stored) (may : MayBeLaid stays m) (x t : ℕ)
    (before : (k : ℕ) → stays_at stays k ≡ false → has_byte (get_or m k no_store) x ≡ true → k < last_place m x t) where
  end_early : end_laid stays m x ≤ last_place m x t
  end_early = end_at_most stays m x (last_place m x t) before

  stays_there : (k : ℕ) → last_place m x t ≡ suc k → end_laid stays m x < suc k → stays_at stays k ≡ true
  stays_there k e l = by_test (stays_at stays k) refl
    where
      by_test : (c : Bool) → stays_at stays k ≡ c → c ≡ true
      by_test true c = refl
      by_test false c = absurd (let q = end_least stays m x k c (last_has m x t k e) in omega (arith, q, l))

  -- the last place before a time is behind a store that stays, or memory has its byte
  pub last_kept : last_place (kept stays m) x (kept_before stays t) ≡ place_kept stays m x (last_place m x t)
  last_kept = elim (cases_lt (end_laid stays m x) (last_place m x t)) [
    | inr none ↦
        kept_none stays m x t (λ j l stay wet.
        let b = end_before stays m may x j stay wet in
        let q = last_least m x t j l wet in
        let e = end_early in
        omega (arith, b, q, e, none)) ∙ sym (place_laid stays m x (last_place m x t) none)
    | inl some ↦ by_place (last_place m x t) refl some ∙ sym (place_stays stays m x (last_place m x t) some)
  ]
    where
      by_place : (p : ℕ) → last_place m x t ≡ p → end_laid stays m x < p → last_place (kept stays m) x (kept_before stays t) ≡ kept_before stays p
      by_place zero e l = absurd (omega (arith, l))
      by_place (suc k) e l =
          let stay = stays_there k e l in
          let w = last_within m x t in
          let to : suc k + (t - suc k) ≡ t = omega (arith, e, w) in
          let one = kept_more stays k stay in
          sym (ap (λ (i : ℕ). last_place (kept stays m) x (kept_before stays i)) to)
          ∙ kept_between stays m x (suc k) (t - suc k) (λ j i s q wet. let b = last_least m x t j (omega (arith, s, to)) wet in omega (arith, i, b, e))
          ∙ ap (last_place (kept stays m) x) one
          ∙ step_of (kept stays m) x (kept_before stays k) true (ap (λ (s : Stored). has_byte s x) (kept_at stays m k stay) ∙ last_has m x t k e)
          ∙ sym one

  pub byte_kept : (opening : ℕ → ℕ) → length stays ≤ length m →
      byte_at (kept stays m) (memory_of (laid stays m) opening) x (place_kept stays m x (last_place m x t)) ≡ byte_at m opening x (last_place m x t)
  byte_kept opening within = elim (cases_lt (end_laid stays m x) (last_place m x t)) [
    | inr none ↦
        let same : end_laid stays m x ≡ last_place m x t = let e = end_early in omega (arith, e, none) in
        ap (byte_at (kept stays m) (memory_of (laid stays m) opening) x) (place_laid stays m x (last_place m x t) none)
        ∙ memory_left stays m opening x within ∙ ap (byte_at m opening x) same
    | inl some ↦
        ap (byte_at (kept stays m) (memory_of (laid stays m) opening) x) (place_stays stays m x (last_place m x t) some) ∙ by_place (last_place m x t) refl some
  ]
    where
      by_place : (p : ℕ) → last_place m x t ≡ p → end_laid stays m x < p → byte_at (kept stays m) (memory_of (laid stays m) opening) x (kept_before stays p) ≡ byte_at m opening x p
      by_place zero e l = absurd (omega (arith, l))
      by_place (suc k) e l =
          let stay = stays_there k e l in
          ap (byte_at (kept stays m) (memory_of (laid stays m) opening) x) (kept_more stays k stay) ∙ ap (λ (s : Stored). byte_in s x) (kept_at stays m k stay)

-- what the whole list leaves
pub memory_kept : (stays : List Bool) (m : List Stored) (opening : ℕ → ℕ) (x : ℕ) → length stays ≤ length m → MayBeLaid stays m →
    memory_of (kept stays m) (memory_of (laid stays m) opening) x ≡ memory_of m opening x
memory_kept stays m opening x within may =
    ap (λ (i : ℕ). byte_at (kept stays m) (memory_of (laid stays m) opening) x (last_place (kept stays m) x i)) (kept_length stays m within)
    ∙ ap (byte_at (kept stays m) (memory_of (laid stays m) opening) x) (last_kept stays m may x (length m) all_before)
    ∙ byte_kept stays m may x (length m) all_before opening within
  where
    all_before : (k : ℕ) → stays_at stays k ≡ false → has_byte (get_or m k no_store) x ≡ true → k < last_place m x (length m)
    all_before k out wet = let l = laid_within stays k out in last_least m x (length m) k (omega (arith, l, within)) wet
