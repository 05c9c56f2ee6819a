-- Some stores of a list are laid into memory, and then some of those that stayed: one choice that does both.
use Rattle.std.proofs.Common.{◌≡◌, ℕ, zero, suc, ◌<◌, ◌≤◌, ◌⊎◌, ◌&&◌, Bool, true, false, List, [], ◌∷◌, length, get_or, refl, sym, ap, ◌∙◌, inl, inr, arith}
use Rattle.std.proofs.lemmas.Bool.{and_parts, cases_lt}
use Rattle.all_endings.specs.StoreLists.{Stored, byte_at, byte_in, has_byte, no_store}
use Rattle.all_endings.specs.Tables.{memory_of}
use Rattle.list_suffixes.specs.Staying.{MayBeLaid, kept, kept_before, laid, place_before, place_kept, stays_at}
use Rattle.list_suffixes.proofs.Staying.{before_kept, before_stays, end_before, end_has, end_laid, end_least, end_within, kept_at, kept_length, kept_less, kept_more, kept_rises, kept_zero, memory_left, place_below, place_laid, place_stays, place_zero, stays_past}

-- ---- where a store stood that stays

pub at_before : (stays : List Bool) (m : List Stored) (n : ℕ) → get_or (kept stays m) n no_store ≡ get_or m (place_before stays n) no_store
at_before stays m n = sym (ap (λ (i : ℕ). get_or (kept stays m) i no_store) (before_kept stays n)) ∙ kept_at stays m (place_before stays n) (before_stays stays n)

pub before_within : (stays : List Bool) (m : List Stored) (n : ℕ) → length stays ≤ length m → n < length (kept stays m) → place_before stays n < length m
before_within stays m n within l = elim (cases_lt (place_before stays n) (length m)) [
  | inl i ↦ i
  | inr i ↦
      absurd (let r = kept_rises stays (length m) (place_before stays n) i in
      let b = before_kept stays n in
      let many = kept_length stays m within in
      omega (arith, l, r, b, many))
]

-- ---- both

-- first the one, and of those that stay the other
abbrev pub joined : List Bool → List Bool → List Bool
joined [] cs = cs
joined (true ∷ bs) [] = true ∷ joined bs []
joined (true ∷ bs) (c ∷ cs) = c ∷ joined bs cs
joined (false ∷ bs) cs = false ∷ joined bs cs

none_kept : (cs : List Bool) → kept cs [] ≡ []
none_kept [] = refl
none_kept (c ∷ cs) = refl

pub kept_joined : (bs cs : List Bool) (m : List Stored) → kept (joined bs cs) m ≡ kept cs (kept bs m)
kept_joined [] cs m = refl
kept_joined (true ∷ bs) [] [] = refl
kept_joined (true ∷ bs) [] (s ∷ m) = ap (λ (l : List Stored). s ∷ l) (kept_joined bs [] m)
kept_joined (true ∷ bs) (c ∷ cs) [] = refl
kept_joined (true ∷ bs) (true ∷ cs) (s ∷ m) = ap (λ (l : List Stored). s ∷ l) (kept_joined bs cs m)
kept_joined (true ∷ bs) (false ∷ cs) (s ∷ m) = kept_joined bs cs m
kept_joined (false ∷ bs) cs [] = sym (none_kept cs)
kept_joined (false ∷ bs) cs (s ∷ m) = kept_joined bs cs m

pub before_joined : (bs cs : List Bool) (t : ℕ) → kept_before (joined bs cs) t ≡ kept_before cs (kept_before bs t)
before_joined [] cs t = refl
before_joined (true ∷ bs) [] zero = refl
before_joined (true ∷ bs) [] (suc t) = ap (λ (i : ℕ). suc i) (before_joined bs [] t)
before_joined (true ∷ bs) (c ∷ cs) zero = refl
before_joined (true ∷ bs) (true ∷ cs) (suc t) = ap (λ (i : ℕ). suc i) (before_joined bs cs t)
before_joined (true ∷ bs) (false ∷ cs) (suc t) = before_joined bs cs t
before_joined (false ∷ bs) cs zero = sym (kept_zero cs)
before_joined (false ∷ bs) cs (suc t) = before_joined bs cs t

pub place_joined : (bs cs : List Bool) (n : ℕ) → place_before (joined bs cs) n ≡ place_before bs (place_before cs n)
place_joined [] cs n = refl
place_joined (true ∷ bs) [] zero = refl
place_joined (true ∷ bs) [] (suc n) = ap (λ (i : ℕ). suc i) (place_joined bs [] n)
place_joined (true ∷ bs) (true ∷ cs) zero = refl
place_joined (true ∷ bs) (true ∷ cs) (suc n) = ap (λ (i : ℕ). suc i) (place_joined bs cs n)
place_joined (true ∷ bs) (false ∷ cs) n = ap (λ (i : ℕ). suc i) (place_joined bs cs n)
place_joined (false ∷ bs) cs n = ap (λ (i : ℕ). suc i) (place_joined bs cs n)

-- a store stays if it does both times
pub stays_joined : (bs cs : List Bool) (j : ℕ) → stays_at (joined bs cs) j ≡ (stays_at bs j && stays_at cs (kept_before bs j))
stays_joined [] cs j = refl
stays_joined (true ∷ bs) [] zero = refl
stays_joined (true ∷ bs) [] (suc j) = stays_joined bs [] j
stays_joined (true ∷ bs) (c ∷ cs) zero = refl
stays_joined (true ∷ bs) (c ∷ cs) (suc j) = stays_joined bs cs j
stays_joined (false ∷ bs) cs zero = refl
stays_joined (false ∷ bs) cs (suc j) = stays_joined bs cs j

pub length_joined : (bs cs : List Bool) (m : List Stored) → length bs ≤ length m → length cs ≤ length (kept bs m) → length (joined bs cs) ≤ length m
length_joined [] cs m l k = k
length_joined (b ∷ bs) cs [] l k = absurd (omega (arith, l))
length_joined (true ∷ bs) [] (s ∷ m) l k = let r = length_joined bs [] m (omega (arith, l)) (omega arith) in omega (arith, r)
length_joined (true ∷ bs) (c ∷ cs) (s ∷ m) l k = let r = length_joined bs cs m (omega (arith, l)) (omega (arith, k)) in omega (arith, r)
length_joined (false ∷ bs) cs (s ∷ m) l k = let r = length_joined bs cs m (omega (arith, l)) k in omega (arith, r)

-- ---- whether a store stays

module _ (bs cs : List Bool) where
  out_first : (j : ℕ) → stays_at bs j ≡ false → stays_at (joined bs cs) j ≡ false
  out_first j e = stays_joined bs cs j ∙ ap (λ (b : Bool). b && stays_at cs (kept_before bs j)) e

  out_then : (j : ℕ) → stays_at bs j ≡ true → stays_at cs (kept_before bs j) ≡ false → stays_at (joined bs cs) j ≡ false
  out_then j e f = stays_joined bs cs j ∙ ap (λ (b : Bool). b && stays_at cs (kept_before bs j)) e ∙ f

  pub both_stay : (j : ℕ) → stays_at bs j ≡ true → stays_at cs (kept_before bs j) ≡ true → stays_at (joined bs cs) j ≡ true
  both_stay j e f = stays_joined bs cs j ∙ ap (λ (b : Bool). b && stays_at cs (kept_before bs j)) e ∙ f

  each_stays : (j : ℕ) → stays_at (joined bs cs) j ≡ true → (stays_at bs j ≡ true) × (stays_at cs (kept_before bs j) ≡ true)
  each_stays j e = and_parts (stays_at bs j) (stays_at cs (kept_before bs j)) (sym (stays_joined bs cs j) ∙ e)

  pub one_out : (j : ℕ) → stays_at (joined bs cs) j ≡ false → (stays_at bs j ≡ false) ⊎ ((stays_at bs j ≡ true) × (stays_at cs (kept_before bs j) ≡ false))
  one_out j e = by_test (stays_at bs j) refl (sym (stays_joined bs cs j) ∙ e)
    where
      by_test : (b : Bool) → stays_at bs j ≡ b → (b && stays_at cs (kept_before bs j)) ≡ false → (stays_at bs j ≡ false) ⊎ ((stays_at bs j ≡ true) × (stays_at cs (kept_before bs j) ≡ false))
      by_test false s r = inl s
      by_test true s r = inr (s, r)

pub may_joined : (bs cs : List Bool) (m : List Stored) → MayBeLaid bs m → MayBeLaid cs (kept bs m) → MayBeLaid (joined bs cs) m
may_joined bs cs m first second j k x l stay out has wet =
    let s = each_stays bs cs j stay in
    elim (one_out bs cs k out) [
      | inl o ↦ first j k x l s.0 o has wet
      | inr o ↦
          second (kept_before bs j) (kept_before bs k) x (kept_less bs j k s.0 l) s.1 o.1 (ap (λ (z : Stored). has_byte z x) (kept_at bs m j s.0) ∙ has)
          (ap (λ (z : Stored). has_byte z x) (kept_at bs m k o.0) ∙ wet)
    ]

-- ---- places

-- a place of a byte: before all stores, behind one that has it, or behind the list
pub data IsPlace (m : List Stored) (x : ℕ) : ℕ → Type 0 where
  place-none : IsPlace m x 0
  place-store : (k : ℕ) → has_byte (get_or m k no_store) x ≡ true → IsPlace m x (suc k)
  place-late : (p : ℕ) → length m < p → IsPlace m x p

module _ (bs cs : List Bool) (m : List Stored) (x : ℕ) where
  -- one that is laid into memory second
  then_out : (n : ℕ) → stays_at cs n ≡ false → has_byte (get_or (kept bs m) n no_store) x ≡ true → place_before bs n < end_laid (joined bs cs) m x
  then_out n out wet =
      end_least (joined bs cs) m x (place_before bs n) (out_then bs cs (place_before bs n) (before_stays bs n) (ap (stays_at cs) (before_kept bs n) ∙ out))
      (ap (λ (s : Stored). has_byte s x) (sym (at_before bs m n)) ∙ wet)

  out_there : (j : ℕ) → stays_at bs j ≡ true → stays_at cs (kept_before bs j) ≡ false → has_byte (get_or m j no_store) x ≡ true → kept_before bs j < end_laid cs (kept bs m) x
  out_there j stay out wet = end_least cs (kept bs m) x (kept_before bs j) out (ap (λ (s : Stored). has_byte s x) (kept_at bs m j stay) ∙ wet)

  first_before : end_laid bs m x ≤ end_laid (joined bs cs) m x
  first_before = by_end (end_laid bs m x) refl
    where
      by_end : (l : ℕ) → end_laid bs m x ≡ l → l ≤ end_laid (joined bs cs) m x
      by_end zero e = omega arith
      by_end (suc k) e = let h = end_has bs m x k e in let l = end_least (joined bs cs) m x k (out_first bs cs k h.0) h.1 in omega (arith, l)

  -- what is laid of both behind the last of the first is of the second
  second_late : (p : ℕ) → end_laid bs m x < p → p ≤ end_laid (joined bs cs) m x → kept_before bs p ≤ end_laid cs (kept bs m) x
  second_late p late l = by_end (end_laid (joined bs cs) m x) refl l
    where
      by_end : (q : ℕ) → end_laid (joined bs cs) m x ≡ q → p ≤ q → kept_before bs p ≤ end_laid cs (kept bs m) x
      by_end zero e i = absurd (omega (arith, late, i))
      by_end (suc j) e i =
          let h = end_has (joined bs cs) m x j e in
          elim (one_out bs cs j h.0) [
            | inl o ↦ absurd (let q = end_least bs m x j o h.1 in omega (arith, q, late, i))
            | inr o ↦
                let q = out_there j o.0 o.1 h.1 in
                let r = kept_rises bs p (suc j) i in
                let one = kept_more bs j o.0 in
                omega (arith, q, r, one)
          ]

  pub place_least : (p : ℕ) → place_kept cs (kept bs m) x (place_kept bs m x p) ≤ place_kept (joined bs cs) m x p
  place_least p = elim (cases_lt (end_laid bs m x) p) [
    | inr early ↦ let z = ap (place_kept cs (kept bs m) x) (place_laid bs m x p early) ∙ place_zero cs (kept bs m) x in omega (arith, z)
    | inl late ↦
        let to = ap (place_kept cs (kept bs m) x) (place_stays bs m x p late) in
        elim (cases_lt (end_laid (joined bs cs) m x) p) [
          | inl on ↦
              let s = place_stays (joined bs cs) m x p on ∙ before_joined bs cs p in
              let b = place_below cs (kept bs m) x (kept_before bs p) in
              omega (arith, to, s, b)
          | inr early ↦ let z = place_laid cs (kept bs m) x (kept_before bs p) (second_late p late early) in omega (arith, to, z)
        ]
  ]

  -- behind both
  behind_both : (p : ℕ) → end_laid bs m x < p → end_laid cs (kept bs m) x < kept_before bs p → end_laid (joined bs cs) m x < p →
      place_kept (joined bs cs) m x p ≡ place_kept cs (kept bs m) x (place_kept bs m x p)
  behind_both p late later on =
      place_stays (joined bs cs) m x p on ∙ before_joined bs cs p ∙ sym (ap (place_kept cs (kept bs m) x) (place_stays bs m x p late) ∙ place_stays cs (kept bs m) x (kept_before bs p) later)

  pub place_both : (p : ℕ) → length bs ≤ length m → length cs ≤ length (kept bs m) → IsPlace m x p → place_kept (joined bs cs) m x p ≡ place_kept cs (kept bs m) x (place_kept bs m x p)
  place_both _ within small place-none = place_zero (joined bs cs) m x ∙ sym (ap (place_kept cs (kept bs m) x) (place_zero bs m x) ∙ place_zero cs (kept bs m) x)
  place_both _ within small (place-store k wet) = elim (cases_lt (end_laid (joined bs cs) m x) (suc k)) [
    | inr early ↦
        let z = place_laid (joined bs cs) m x (suc k) early in
        let l = place_least (suc k) in
        omega (arith, z, l)
    | inl on ↦ let f = first_before in behind_both (suc k) (omega (arith, f, on)) (second on (omega (arith, f, on))) on
  ]
    where
      second : end_laid (joined bs cs) m x < suc k → end_laid bs m x < suc k → end_laid cs (kept bs m) x < kept_before bs (suc k)
      second on late = by_end (end_laid cs (kept bs m) x) refl
        where
          stay : stays_at bs k ≡ true
          stay = by_test (stays_at bs k) refl
            where
              by_test : (c : Bool) → stays_at bs k ≡ c → c ≡ true
              by_test true c = refl
              by_test false c = absurd (let q = end_least bs m x k c wet in omega (arith, q, late))

          by_end : (l : ℕ) → end_laid cs (kept bs m) x ≡ l → l < kept_before bs (suc k)
          by_end zero e = let one = kept_more bs k stay in omega (arith, one)
          by_end (suc n) e =
              let h = end_has cs (kept bs m) x n e in
              let l = then_out n h.0 h.1 in
              let r = kept_less bs (place_before bs n) k (before_stays bs n) (omega (arith, l, on)) in
              let b = before_kept bs n in
              let one = kept_more bs k stay in
              omega (arith, r, b, one)
  place_both p within small (place-late _ far) =
      let both = end_within (joined bs cs) m x in
      let many = length_joined bs cs m within small in
      let first = end_within bs m x in
      let second = end_within cs (kept bs m) x in
      let all = kept_length bs m within in
      let on = kept_less bs (length m) p (stays_past bs (length m) within) far in
      behind_both p (omega (arith, first, within, far)) (omega (arith, second, small, all, on)) (omega (arith, both, many, far))

  -- ---- memory

  end_first : end_laid cs (kept bs m) x ≡ 0 → end_laid (joined bs cs) m x ≡ end_laid bs m x
  end_first none = by_end (end_laid (joined bs cs) m x) refl
    where
      by_end : (l : ℕ) → end_laid (joined bs cs) m x ≡ l → l ≡ end_laid bs m x
      by_end zero e = let f = first_before in omega (arith, f, e)
      by_end (suc j) e =
          let h = end_has (joined bs cs) m x j e in
          elim (one_out bs cs j h.0) [
            | inl o ↦ let q = end_least bs m x j o h.1 in let f = first_before in omega (arith, q, f, e)
            | inr o ↦ absurd (let q = out_there j o.0 o.1 h.1 in omega (arith, q, none))
          ]

  end_then : MayBeLaid bs m → (n : ℕ) → end_laid cs (kept bs m) x ≡ suc n → end_laid (joined bs cs) m x ≡ suc (place_before bs n)
  end_then may n some = by_end (end_laid (joined bs cs) m x) refl
    where
      has : (stays_at cs n ≡ false) × (has_byte (get_or (kept bs m) n no_store) x ≡ true)
      has = end_has cs (kept bs m) x n some

      by_end : (l : ℕ) → end_laid (joined bs cs) m x ≡ l → l ≡ suc (place_before bs n)
      by_end zero e = absurd (let l = then_out n has.0 has.1 in omega (arith, l, e))
      by_end (suc j) e =
          let l = then_out n has.0 has.1 in
          let h = end_has (joined bs cs) m x j e in
          elim (one_out bs cs j h.0) [
            | inl o ↦
                absurd (let q = end_least bs m x j o h.1 in
                let b = end_before bs m may x (place_before bs n) (before_stays bs n) (ap (λ (s : Stored). has_byte s x) (sym (at_before bs m n)) ∙ has.1) in
                omega (arith, q, b, l, e))
            | inr o ↦
                elim (cases_lt (place_before bs n) j) [
                  | inl i ↦
                      absurd (let q = out_there j o.0 o.1 h.1 in
                      let r = kept_less bs (place_before bs n) j (before_stays bs n) i in
                      let b = before_kept bs n in
                      omega (arith, q, r, b, some))
                  | inr i ↦ omega (arith, i, l, e)
                ]
          ]

  pub memory_joined : (opening : ℕ → ℕ) → length bs ≤ length m → length cs ≤ length (kept bs m) → MayBeLaid bs m →
      memory_of (laid (joined bs cs) m) opening x ≡ memory_of (laid cs (kept bs m)) (memory_of (laid bs m) opening) x
  memory_joined opening within small may =
      memory_left (joined bs cs) m opening x (length_joined bs cs m within small) ∙ by_end (end_laid cs (kept bs m) x) refl
      ∙ sym (memory_left cs (kept bs m) (memory_of (laid bs m) opening) x small)
    where
      by_end : (l : ℕ) → end_laid cs (kept bs m) x ≡ l → byte_at m opening x (end_laid (joined bs cs) m x) ≡ byte_at (kept bs m) (memory_of (laid bs m) opening) x l
      by_end zero e = ap (byte_at m opening x) (end_first e) ∙ sym (memory_left bs m opening x within)
      by_end (suc n) e = ap (byte_at m opening x) (end_then may n e) ∙ ap (λ (s : Stored). byte_in s x) (sym (at_before bs m n))
