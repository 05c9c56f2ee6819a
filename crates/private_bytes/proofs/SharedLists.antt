-- A list of stores, and those of them alone that pass a test: their places, and what they leave.
use Rattle.std.proofs.Common.{◌≡◌, ℕ, zero, suc, ◌+◌, ◌<◌, ◌≤◌, Bool, true, false, if◌then◌else◌, List, [], ◌∷◌, ◌++◌, length, filter, get_or, refl, sym, ap, ◌∙◌, subst, inl, inr, arith}
use Rattle.std.proofs.lemmas.Bool.{cases_lt}
use Rattle.all_endings.specs.StoreLists.{Stored, byte_at, byte_in, has_byte, last_place, no_store}
use Rattle.all_endings.proofs.Times.{Rises}

module _ (passes : Stored → Bool) where
  -- how many of the first t pass; behind the list each time counts
  abbrev pub passed : List Stored → ℕ → ℕ
  passed [] t = t
  passed (s ∷ m) zero = 0
  passed (s ∷ m) (suc t) = (if passes s then 1 else 0) + passed m t

  abbrev pub those : List Stored → List Stored
  those m = filter passes m

  pub passed_none : (m : List Stored) → passed m 0 ≡ 0
  passed_none [] = refl
  passed_none (s ∷ m) = refl

  one_more : (b : Bool) (u w : ℕ) → u ≤ w → (if b then 1 else 0) + u ≤ (if b then 1 else 0) + w
  one_more true u w l = omega (arith, l)
  one_more false u w l = omega (arith, l)

  pub passed_rises : (m : List Stored) → Rises (passed m)
  passed_rises [] p q l = l
  passed_rises (s ∷ m) zero q l = omega arith
  passed_rises (s ∷ m) (suc p) zero l = absurd (omega (arith, l))
  passed_rises (s ∷ m) (suc p) (suc q) l = one_more (passes s) (passed m p) (passed m q) (passed_rises m p q (omega (arith, l)))

  length_by : (b : Bool) (s : Stored) (m : List Stored) → length (if b then s ∷ those m else those m) ≡ (if b then 1 else 0) + length (those m)
  length_by true s m = omega arith
  length_by false s m = omega arith

  -- behind the whole list
  pub passed_all : (m : List Stored) (j : ℕ) → passed m (length m + j) ≡ length (those m) + j
  passed_all [] j = refl
  passed_all (s ∷ m) j =
      let e : length (s ∷ m) + j ≡ suc (length m + j) = omega arith in
      let r = passed_all m j in
      let n = length_by (passes s) s m in
      ap (passed (s ∷ m)) e ∙ omega (arith, r, n)

  -- a store that passes
  pub passing : (m : List Stored) (k : ℕ) → k < length m → passes (get_or m k no_store) ≡ true →
      (passed m (suc k) ≡ passed m k + 1) × (get_or (those m) (passed m k) no_store ≡ get_or m k no_store) × (passed m k < length (those m))
  passing [] k l p = absurd (omega (arith, l))
  passing (s ∷ m) zero l p = by_test (passes s) p
    where
      by_test : (b : Bool) → b ≡ true →
          ((if b then 1 else 0) + passed m 0 ≡ 0 + 1) × (get_or (if b then s ∷ those m else those m) 0 no_store ≡ s) × (0 < length (if b then s ∷ those m else those m))
      by_test true e = (let z = passed_none m in omega (arith, z), refl, omega arith)
      by_test false e = absurd (cc)
  passing (s ∷ m) (suc k) l p = by_test (passes s) (passing m k (omega (arith, l)) p)
    where
      by_test : (b : Bool) → (passed m (suc k) ≡ passed m k + 1) × (get_or (those m) (passed m k) no_store ≡ get_or m k no_store) × (passed m k < length (those m)) →
          ((if b then 1 else 0) + passed m (suc k) ≡ (if b then 1 else 0) + passed m k + 1) ×
          (get_or (if b then s ∷ those m else those m) ((if b then 1 else 0) + passed m k) no_store ≡ get_or m k no_store) ×
          ((if b then 1 else 0) + passed m k < length (if b then s ∷ those m else those m))
      by_test true r =
          let e : 1 + passed m k ≡ suc (passed m k) = omega arith in
          let q = r.0 in let i = r.2 in
          (omega (arith, q), ap (λ (j : ℕ). get_or (s ∷ those m) j no_store) e ∙ r.1, omega (arith, i))
      by_test false r =
          let e : 0 + passed m k ≡ passed m k = omega arith in
          let q = r.0 in let i = r.2 in
          (omega (arith, q), ap (λ (j : ℕ). get_or (those m) j no_store) e ∙ r.1, omega (arith, i))

  -- one that doesn't
  pub skipping : (m : List Stored) (k : ℕ) → k < length m → passes (get_or m k no_store) ≡ false → passed m (suc k) ≡ passed m k
  skipping [] k l p = absurd (omega (arith, l))
  skipping (s ∷ m) zero l p = by_test (passes s) p
    where
      by_test : (b : Bool) → b ≡ false → (if b then 1 else 0) + passed m 0 ≡ 0
      by_test true e = absurd (cc)
      by_test false e = let z = passed_none m in omega (arith, z)
  skipping (s ∷ m) (suc k) l p = ap (λ (j : ℕ). (if passes s then 1 else 0) + j) (skipping m k (omega (arith, l)) p)

  -- each that passes was one of the list
  pub found : (m : List Stored) (t j : ℕ) → t ≤ length m → j < passed m t → (k : ℕ) × (k < t) × (passes (get_or m k no_store) ≡ true) × (passed m k ≡ j)
  found m zero j l f = absurd (let z = passed_none m in omega (arith, z, f))
  found m (suc t) j l f = by_test (passes (get_or m t no_store)) refl (λ earlier. found m t j (omega (arith, l)) earlier)
    where
      weaker : (k : ℕ) × (k < t) × (passes (get_or m k no_store) ≡ true) × (passed m k ≡ j) → (k : ℕ) × (k < suc t) × (passes (get_or m k no_store) ≡ true) × (passed m k ≡ j)
      weaker r = (r.0, (let k = r.1 in omega (arith, k)), r.2, r.3)

      by_test : (b : Bool) → passes (get_or m t no_store) ≡ b → (j < passed m t → (k : ℕ) × (k < t) × (passes (get_or m k no_store) ≡ true) × (passed m k ≡ j)) →
          (k : ℕ) × (k < suc t) × (passes (get_or m k no_store) ≡ true) × (passed m k ≡ j)
      by_test true e before =
          let s = (passing m t (omega (arith, l)) e).0 in
          elim (cases_lt j (passed m t)) [
            | inl earlier ↦ weaker (before earlier)
            | inr here ↦ (t, omega arith, e, omega (arith, s, f, here))
          ]
      by_test false e before = let s = skipping m t (omega (arith, l)) e in weaker (before (omega (arith, s, f)))

  pub those_more : (m : List Stored) (s : Stored) → those (m ++ s ∷ []) ≡ those m ++ (if passes s then s ∷ [] else [])
  those_more [] s = refl
  those_more (r ∷ m) s = by_test (passes r) (those_more m s)
    where
      by_test : (b : Bool) → those (m ++ s ∷ []) ≡ those m ++ (if passes s then s ∷ [] else []) → (if b then r ∷ those (m ++ s ∷ []) else those (m ++ s ∷ [])) ≡ (if b then r ∷ those m else those m) ++ (if passes s then s ∷ [] else [])
      by_test true more = ap (λ (n : List Stored). r ∷ n) more
      by_test false more = more

  -- ---- a byte that only stores write which pass

  abbrev pub Concerns : List Stored → ℕ → Type 0
  Concerns m x = (k : ℕ) → k < length m → has_byte (get_or m k no_store) x ≡ true → passes (get_or m k no_store) ≡ true

  last_step : (m : List Stored) (x k : ℕ) (b : Bool) → has_byte (get_or m k no_store) x ≡ b → last_place m x (suc k) ≡ (if b then suc k else last_place m x k)
  last_step m x k b e = ap (λ (c : Bool). if c then suc k else last_place m x k) e

  pub last_passed : (m : List Stored) (x : ℕ) → Concerns m x → (t : ℕ) → t ≤ length m → last_place (those m) x (passed m t) ≡ passed m (last_place m x t)
  last_passed m x c zero l = ap (last_place (those m) x) (passed_none m) ∙ sym (passed_none m)
  last_passed m x c (suc t) l = by_tests (passes (get_or m t no_store)) (has_byte (get_or m t no_store) x) refl refl (last_passed m x c t (omega (arith, l)))
    where
      chosen : (b : Bool) → passed m (suc t) ≡ suc (passed m t) → last_place (those m) x (passed m t) ≡ passed m (last_place m x t) → (if b then suc (passed m t) else last_place (those m) x (passed m t)) ≡ passed m (if b then suc t else last_place m x t)
      chosen true next before = sym next
      chosen false next before = before

      by_tests : (p b : Bool) → passes (get_or m t no_store) ≡ p → has_byte (get_or m t no_store) x ≡ b → last_place (those m) x (passed m t) ≡ passed m (last_place m x t) →
          last_place (those m) x (passed m (suc t)) ≡ passed m (last_place m x (suc t))
      by_tests false true e f before = absurd (let q = c t (omega (arith, l)) f in cc)
      by_tests false false e f before = ap (last_place (those m) x) (skipping m t (omega (arith, l)) e) ∙ before ∙ ap (passed m) (sym (last_step m x t false f))
      by_tests true b e f before =
          let s = passing m t (omega (arith, l)) e in
          let next : passed m (suc t) ≡ suc (passed m t) = let z = s.0 in omega (arith, z) in
          let same : has_byte (get_or (those m) (passed m t) no_store) x ≡ b = ap (λ (r : Stored). has_byte r x) s.1 ∙ f in
          ap (last_place (those m) x) next ∙ last_step (those m) x (passed m t) b same ∙ chosen b next before ∙ ap (passed m) (sym (last_step m x t b f))

  pub last_within : (m : List Stored) (x t : ℕ) → last_place m x t ≤ t
  last_within m x zero = omega arith
  last_within m x (suc t) = by_test (has_byte (get_or m t no_store) x) (last_within m x t)
    where
      by_test : (b : Bool) → last_place m x t ≤ t → (if b then suc t else last_place m x t) ≤ suc t
      by_test true r = omega arith
      by_test false r = omega (arith, r)

  -- what a place behind a store has: a store of the byte
  pub last_has : (m : List Stored) (x t k : ℕ) → last_place m x t ≡ suc k → (k < t) × (has_byte (get_or m k no_store) x ≡ true)
  last_has m x zero k e = absurd (omega (arith, e))
  last_has m x (suc t) k e = by_test (has_byte (get_or m t no_store) x) refl (λ q. last_has m x t k q)
    where
      by_test : (b : Bool) → has_byte (get_or m t no_store) x ≡ b → (last_place m x t ≡ suc k → (k < t) × (has_byte (get_or m k no_store) x ≡ true)) → (k < suc t) × (has_byte (get_or m k no_store) x ≡ true)
      by_test true f before =
          let s : suc t ≡ suc k = sym (last_step m x t true f) ∙ e in
          let n : t ≡ k = omega (arith, s) in
          (omega (arith, n), subst (λ (j : ℕ). has_byte (get_or m j no_store) x ≡ true) n f)
      by_test false f before =
          let r = before (sym (last_step m x t false f) ∙ e) in
          (let l = r.0 in omega (arith, l), r.1)

  -- the byte there
  pub byte_passed : (m : List Stored) (opening : ℕ → ℕ) (x : ℕ) → Concerns m x → (t : ℕ) → t ≤ length m →
      byte_at (those m) opening x (passed m (last_place m x t)) ≡ byte_at m opening x (last_place m x t)
  byte_passed m opening x c t l = by_place (last_place m x t) refl
    where
      by_place : (p : ℕ) → last_place m x t ≡ p → byte_at (those m) opening x (passed m p) ≡ byte_at m opening x p
      by_place zero e = ap (byte_at (those m) opening x) (passed_none m)
      by_place (suc k) e =
          let h = last_has m x t k e in
          let i : k < length m = let a = h.0 in omega (arith, a, l) in
          let s = passing m k i (c k i h.1) in
          let next : passed m (suc k) ≡ suc (passed m k) = let z = s.0 in omega (arith, z) in
          ap (byte_at (those m) opening x) next ∙ ap (λ (r : Stored). byte_in r x) s.1
