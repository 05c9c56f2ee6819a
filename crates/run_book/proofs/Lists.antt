-- Lemmas on the lists of the rule: beginnings, membership, numbers apart, elements by place.
use Rattle.std.proofs.Common.{◌≡◌, ◌≢◌, ℕ, zero, suc, ◌+◌, ◌-◌, replicate, ◌<◌, ◌≤◌, ◌||◌, ◌⊎◌, Bool, true, false, eqb, List, [], ◌∷◌, ◌++◌, map, length, drop, refl, sym, ap, ◌∙◌, subst, inl, inr, ⊎_elim, true≢false, append_assoc, append-nil, arith, eq-eqb, ne_eqb}
use Rattle.std.specs.List.{list_any, IsDistinct, AllByRecursion}
use Rattle.std.proofs.lemmas.Map.Steps.{length-le_from_distinct_below}
use mathlib.Core.Option.{some, some-injective, some-ne-none}
use mathlib.Core.Logic.{dite}
use native.Mathlib.Decide.{ℕ_discrete}
use lib.ListN.{get_elem?}
use Rattle.run_book.specs.Lists.{Begins, Each, has, times, Apart}

pub never : (b : Bool) → b ≡ true → b ≡ false → ⊥
never b t f = true≢false (sym t ∙ f)

-- ---- beginnings

module _ {A : Type 0} where
  pub begins_same : (xs : List A) → Begins xs xs
  begins_same xs = ([], sym (append-nil xs))

  pub begins_more : (xs ys zs : List A) → Begins xs ys → Begins xs (ys ++ zs)
  begins_more xs ys zs b = (b.0 ++ zs, ap (λ (l : List A). l ++ zs) b.1 ∙ append_assoc xs b.0 zs)

  -- of two beginnings of one list the shorter begins the longer
  pub begins_longer : (xs ys all : List A) → Begins xs all → Begins ys all → length xs ≤ length ys → Begins xs ys
  begins_longer [] ys all b c le = (ys, refl)
  begins_longer (x ∷ xs) [] all b c le = absurd (omega arith)
  begins_longer (x ∷ xs) (y ∷ ys) [] b c le = let e = b.1 in absurd (cc)
  begins_longer (x ∷ xs) (y ∷ ys) (a ∷ all) b c le =
      let e = b.1 in
      let f = c.1 in
      let t : all ≡ xs ++ b.0 = cc in
      let u : all ≡ ys ++ c.0 = cc in
      let heads : y ≡ x = cc in
      let r = begins_longer xs ys all (b.0, t) (c.0, u) (omega arith) in
      (r.0, ap (λ (h : A). h ∷ ys) heads ∙ ap (λ (l : List A). x ∷ l) r.1)

  pub drop_begin : (xs ys : List A) → drop (length xs) (xs ++ ys) ≡ ys
  drop_begin [] ys = refl
  drop_begin (x ∷ xs) ys = drop_begin xs ys

  -- ---- facts of each element

  pub each_of_all : (P : A → Type 0) (xs : List A) → ((a : A) → P a) → Each P xs
  each_of_all P [] f = tt
  each_of_all P (x ∷ xs) f = (f x, each_of_all P xs f)

  pub each_map : (P Q : A → Type 0) (xs : List A) → ((a : A) → P a → Q a) → Each P xs → Each Q xs
  each_map P Q [] f e = tt
  each_map P Q (x ∷ xs) f e = (f x e.0, each_map P Q xs f e.1)

  pub each_both : (P Q R : A → Type 0) (xs : List A) → ((a : A) → P a → Q a → R a) → Each P xs → Each Q xs → Each R xs
  each_both P Q R [] f e g = tt
  each_both P Q R (x ∷ xs) f e g = (f x e.0 g.0, each_both P Q R xs f e.1 g.1)

  pub each_append : (P : A → Type 0) (xs ys : List A) → Each P xs → Each P ys → Each P (xs ++ ys)
  each_append P [] ys e f = f
  each_append P (x ∷ xs) ys e f = (e.0, each_append P xs ys e.1 f)

  pub each_left : (P : A → Type 0) (xs ys : List A) → Each P (xs ++ ys) → Each P xs
  each_left P [] ys e = tt
  each_left P (x ∷ xs) ys e = (e.0, each_left P xs ys e.1)

  pub each_right : (P : A → Type 0) (xs ys : List A) → Each P (xs ++ ys) → Each P ys
  each_right P [] ys e = e
  each_right P (x ∷ xs) ys e = each_right P xs ys e.1

  pub each_mapped : {B : Type 0} (f : A → B) (P : B → Type 0) (xs : List A) → Each (λ a. P (f a)) xs → Each P (map f xs)
  each_mapped f P [] e = tt
  each_mapped f P (x ∷ xs) e = (e.0, each_mapped f P xs e.1)

  -- ---- elements by place

  pub elem_below : (xs : List A) (i : ℕ) (a : A) → get_elem? xs i ≡ some a → i < length xs
  elem_below [] i a e = absurd (some-ne-none a (sym e))
  elem_below (x ∷ xs) zero a e = omega arith
  elem_below (x ∷ xs) (suc i) a e = let r = elem_below xs i a e in omega arith

  pub elem_snoc : (xs : List A) (a b : A) (i : ℕ) → get_elem? (xs ++ a ∷ []) i ≡ some b → (get_elem? xs i ≡ some b) ⊎ ((i ≡ length xs) × (a ≡ b))
  elem_snoc [] a b zero e = inr (refl, some-injective a b e)
  elem_snoc [] a b (suc i) e = absurd (some-ne-none b (sym e))
  elem_snoc (x ∷ xs) a b zero e = inl e
  elem_snoc (x ∷ xs) a b (suc i) e = ⊎_elim (λ t. inl t) (λ t. let n = t.0 in inr (omega arith, t.1)) (elem_snoc xs a b i e)

  pub elem_one : (xs : List A) (i : ℕ) (a b : A) → get_elem? xs i ≡ some a → get_elem? xs i ≡ some b → a ≡ b
  elem_one xs i a b e f = some-injective a b (sym e ∙ f)

-- ---- membership

or_left : (a b : Bool) → (a || b) ≡ false → a ≡ false
or_left true b e = e
or_left false b e = refl

or_right : (a b : Bool) → (a || b) ≡ false → b ≡ false
or_right true b e = absurd (true≢false e)
or_right false b e = e

pub has_head : (x n : ℕ) (xs : List ℕ) → n ≡ x → has (x ∷ xs) n ≡ true
has_head x n xs e = ap (λ (b : Bool). b || has xs n) (eq-eqb n x e)

pub has_skip : (x n : ℕ) (xs : List ℕ) → n ≢ x → has (x ∷ xs) n ≡ has xs n
has_skip x n xs ne = ap (λ (b : Bool). b || has xs n) (ne_eqb n x ne)

pub has_tail : (x n : ℕ) (xs : List ℕ) → has xs n ≡ true → has (x ∷ xs) n ≡ true
has_tail x n xs h = dite (ℕ_discrete n x) (λ e. has_head x n xs e) (λ ne. has_skip x n xs ne ∙ h)

pub has_cases : (x n : ℕ) (xs : List ℕ) → has (x ∷ xs) n ≡ true → (n ≡ x) ⊎ (has xs n ≡ true)
has_cases x n xs h = dite (ℕ_discrete n x) (λ e. inl e) (λ ne. inr (sym (has_skip x n xs ne) ∙ h))

pub lacks_head : (x n : ℕ) (xs : List ℕ) → has (x ∷ xs) n ≡ false → n ≢ x
lacks_head x n xs h e = never (has (x ∷ xs) n) (has_head x n xs e) h

pub lacks_tail : (x n : ℕ) (xs : List ℕ) → has (x ∷ xs) n ≡ false → has xs n ≡ false
lacks_tail x n xs h = or_right (eqb n x) (has xs n) h

pub has_left : (xs ys : List ℕ) (n : ℕ) → has xs n ≡ true → has (xs ++ ys) n ≡ true
has_left [] ys n h = absurd (true≢false (sym h))
has_left (x ∷ xs) ys n h = ⊎_elim (λ e. has_head x n (xs ++ ys) e) (λ t. has_tail x n (xs ++ ys) (has_left xs ys n t)) (has_cases x n xs h)

pub has_last : (xs : List ℕ) (n : ℕ) → has (xs ++ n ∷ []) n ≡ true
has_last [] n = has_head n n [] refl
has_last (x ∷ xs) n = has_tail x n (xs ++ n ∷ []) (has_last xs n)

pub has_snoc : (xs : List ℕ) (m n : ℕ) → has (xs ++ m ∷ []) n ≡ true → (has xs n ≡ true) ⊎ (n ≡ m)
has_snoc [] m n h = ⊎_elim (λ e. inr e) (λ t. absurd (true≢false (sym t))) (has_cases m n [] h)
has_snoc (x ∷ xs) m n h = ⊎_elim (λ e. inl (has_head x n xs e)) (λ t. ⊎_elim (λ u. inl (has_tail x n xs u)) (λ e. inr e) (has_snoc xs m n t)) (has_cases x n (xs ++ m ∷ []) h)

pub lacks_from : (xs : List ℕ) (n : ℕ) → (has xs n ≡ true → ⊥) → has xs n ≡ false
lacks_from xs n deny = go (has xs n) refl
  where
    go : (b : Bool) → has xs n ≡ b → has xs n ≡ false
    go true e = absurd (deny e)
    go false e = e

pub has_each : (P : ℕ → Type 0) (xs : List ℕ) (n : ℕ) → Each P xs → has xs n ≡ true → P n
has_each P [] n e h = absurd (true≢false (sym h))
has_each P (x ∷ xs) n e h = ⊎_elim (λ (i : n ≡ x). subst P (sym i) e.0) (λ t. has_each P xs n e.1 t) (has_cases x n xs h)

-- ---- numbers apart

pub apart_snoc : (xs : List ℕ) (n : ℕ) → Apart xs → has xs n ≡ false → Apart (xs ++ n ∷ [])
apart_snoc [] n a l = (refl, tt)
apart_snoc (x ∷ xs) n a l = (
  lacks_from (xs ++ n ∷ []) x (λ h. ⊎_elim (λ t. never (has xs x) t a.0) (λ e. lacks_head x n xs l (sym e)) (has_snoc xs n x h)),
  apart_snoc xs n a.1 (lacks_tail x n xs l),
)

all_other : (xs : List ℕ) (n : ℕ) → has xs n ≡ false → AllByRecursion (λ y. eqb n y ≡ false) xs
all_other [] n h = tt
all_other (x ∷ xs) n h = (or_left (eqb n x) (has xs n) h, all_other xs n (lacks_tail x n xs h))

pub distinct : (xs : List ℕ) → Apart xs → IsDistinct eqb xs
unfolding IsDistinct
distinct [] a = tt
distinct (x ∷ xs) a = (all_other xs x a.0, distinct xs a.1)

pub any_has : (xs : List ℕ) (n : ℕ) → has xs n ≡ list_any (eqb n) xs
any_has [] n = refl
any_has (x ∷ xs) n = ap (λ (b : Bool). eqb n x || b) (any_has xs n)

-- numbers below n that are apart, and lack one that is below n, are fewer than n
pub fewer_than : (xs : List ℕ) (n h : ℕ) → Apart xs → Each (λ x. x < n) xs → h < n → has xs h ≡ false → length xs < n
fewer_than xs n h a below lt lacks =
    let le = length-le_from_distinct_below (h ∷ xs) n (distinct (h ∷ xs) (lacks, a))
    (λ q is. has_each (λ x. x < n) (h ∷ xs) q (lt, below) (any_has (h ∷ xs) q ∙ is)) in
    omega arith

pub times_lacking : (xs : List ℕ) (n : ℕ) → has xs n ≡ false → times n xs ≡ 0
times_lacking [] n h = refl
times_lacking (x ∷ xs) n h = let r = times_lacking xs n (lacks_tail x n xs h) in let f : eqb n x ≡ false = or_left (eqb n x) (has xs n) h in rw f (omega (arith, r))

pub times_once : (xs : List ℕ) (n : ℕ) → Apart xs → has xs n ≡ true → times n xs ≡ 1
times_once [] n a h = absurd (true≢false (sym h))
times_once (x ∷ xs) n a h = dite (ℕ_discrete n x)
    (λ e. let t : eqb n x ≡ true = eq-eqb n x e in let r = times_lacking xs n (subst (λ (k : ℕ). has xs k ≡ false) (sym e) a.0) in rw t (omega (arith, r)))
    (λ ne. let f : eqb n x ≡ false = ne_eqb n x ne in let r = times_once xs n a.1 (sym (has_skip x n xs ne) ∙ h) in rw f (omega (arith, r)))

pub has_from_times : (xs : List ℕ) (n : ℕ) → times n xs ≡ 1 → has xs n ≡ true
has_from_times xs n e = go (has xs n) refl
  where
    go : (b : Bool) → has xs n ≡ b → has xs n ≡ true
    go true h = h
    go false h = let z = times_lacking xs n h in absurd (omega arith)

pub lacks_snoc : (xs : List ℕ) (m n : ℕ) → has xs n ≡ false → n ≢ m → has (xs ++ m ∷ []) n ≡ false
lacks_snoc xs m n lacks ne = lacks_from (xs ++ m ∷ []) n (λ h. ⊎_elim (λ t. never (has xs n) t lacks) ne (has_snoc xs m n h))

pub has_right : (xs ys : List ℕ) (n : ℕ) → has ys n ≡ true → has (xs ++ ys) n ≡ true
has_right [] ys n h = h
has_right (x ∷ xs) ys n h = has_tail x n (xs ++ ys) (has_right xs ys n h)

pub apart_right : (xs ys : List ℕ) → Apart (xs ++ ys) → Apart ys
apart_right [] ys a = a
apart_right (x ∷ xs) ys a = apart_right xs ys a.1

pub lacks_right : (xs ys : List ℕ) (n : ℕ) → has (xs ++ ys) n ≡ false → has ys n ≡ false
lacks_right xs ys n h = lacks_from ys n (λ is. never (has (xs ++ ys) n) (has_right xs ys n is) h)

-- ---- numbers from b on

abbrev pub Between : ℕ → ℕ → ℕ → Type 0
Between b n x = (b ≤ x) × (x < b + n)

minus_apart : (b : ℕ) (xs : List ℕ) (x : ℕ) → Each (λ y. b ≤ y) xs → b ≤ x → has xs x ≡ false → has (map (λ y. y - b) xs) (x - b) ≡ false
minus_apart b [] x e le h = refl
minus_apart b (y ∷ ys) x e le h =
    let here = e.0 in
    let ne = lacks_head y x ys h in
    has_skip (y - b) (x - b) (map (λ z. z - b) ys) (λ same. ne (omega arith)) ∙ minus_apart b ys x e.1 le (lacks_tail y x ys h)

pub minus_all : (b : ℕ) (xs : List ℕ) → Each (λ y. b ≤ y) xs → Apart xs → Apart (map (λ y. y - b) xs)
minus_all b [] e a = tt
minus_all b (x ∷ xs) e a = (minus_apart b xs x e.1 e.0 a.0, minus_all b xs e.1 a.1)

minus_below : (b n : ℕ) (xs : List ℕ) → Each (Between b n) xs → Each (λ y. y < n) (map (λ y. y - b) xs)
minus_below b n [] e = tt
minus_below b n (x ∷ xs) e = ((let l = e.0.0 in let u = e.0.1 in omega arith), minus_below b n xs e.1)

minus_length : (b : ℕ) (xs : List ℕ) → length (map (λ y. y - b) xs) ≡ length xs
minus_length b [] = refl
minus_length b (x ∷ xs) = let r = minus_length b xs in omega arith

lows : (b n : ℕ) (xs : List ℕ) → Each (Between b n) xs → Each (λ y. b ≤ y) xs
lows b n [] e = tt
lows b n (x ∷ xs) e = (e.0.0, lows b n xs e.1)

-- apart numbers in a stretch of n that lack one of it are fewer than n
pub fewer_between : (xs : List ℕ) (b n h : ℕ) → Apart xs → Each (Between b n) xs → b ≤ h → h < b + n → has xs h ≡ false → length xs < n
fewer_between xs b n h a e le lt lacks =
    let lo = lows b n xs e in
    let l = minus_length b xs in
    let f = fewer_than (map (λ y. y - b) xs) n (h - b) (minus_all b xs lo a) (minus_below b n xs e) (omega arith) (minus_apart b xs h lo le lacks) in
    omega arith

-- they are n at most
pub few_between : (xs : List ℕ) (b n : ℕ) → Apart xs → Each (Between b n) xs → length xs ≤ n
few_between xs b n a e =
    let lo = lows b n xs e in
    let l = minus_length b xs in
    let ys : List ℕ = map (λ y. y - b) xs in
    let le = length-le_from_distinct_below ys n (distinct ys (minus_all b xs lo a))
    (λ q is. has_each (λ x. x < n) ys q (minus_below b n xs e) (any_has ys q ∙ is)) in
    omega arith

-- as many as the stretch is long: each number of it is among them
pub all_between : (xs : List ℕ) (b n h : ℕ) → Apart xs → Each (Between b n) xs → length xs ≡ n → b ≤ h → h < b + n → has xs h ≡ true
all_between xs b n h a e long le lt = go (has xs h) refl
  where
    go : (c : Bool) → has xs h ≡ c → has xs h ≡ true
    go true is = is
    go false is = let f = fewer_between xs b n h a e le lt is in absurd (omega arith)

-- ---- owners, and nobody behind them

pub elem_padded : (xs : List ℕ) (n a i k : ℕ) → get_elem? (xs ++ replicate n a) i ≡ some k → (get_elem? xs i ≡ some k) ⊎ (k ≡ a)
elem_padded [] zero a i k e = absurd (some-ne-none k (sym e))
elem_padded [] (suc n) a zero k e = inr (sym (some-injective a k e))
elem_padded [] (suc n) a (suc i) k e = ⊎_elim (λ t. absurd (some-ne-none k (sym t))) (λ t. inr t) (elem_padded [] n a i k e)
elem_padded (x ∷ xs) n a zero k e = inl e
elem_padded (x ∷ xs) n a (suc i) k e = elem_padded xs n a i k e

module _ {A : Type 0} where
  pub drop_long : (n : ℕ) (xs : List A) → length (drop n xs) ≡ length xs - n
  drop_long zero xs = omega arith
  drop_long (suc n) [] = omega arith
  drop_long (suc n) (x ∷ xs) = let r = drop_long n xs in omega arith

  pub drop_at : (n : ℕ) (xs : List A) (j i : ℕ) (a : A) → i ≡ n + j → get_elem? xs i ≡ some a → get_elem? (drop n xs) j ≡ some a
  drop_at zero xs j i a is at = subst (λ (m : ℕ). get_elem? xs m ≡ some a) (omega arith) at
  drop_at (suc n) [] j i a is at = absurd (some-ne-none a (sym at))
  drop_at (suc n) (x ∷ xs) j zero a is at = absurd (omega arith)
  drop_at (suc n) (x ∷ xs) j (suc i) a is at = drop_at n xs j i a (omega arith) at

  pub drop_from : (n : ℕ) (xs : List A) (j i : ℕ) (a : A) → i ≡ n + j → get_elem? (drop n xs) j ≡ some a → get_elem? xs i ≡ some a
  drop_from zero xs j i a is at = subst (λ (m : ℕ). get_elem? xs m ≡ some a) (omega arith) at
  drop_from (suc n) [] j i a is at = absurd (some-ne-none a (sym at))
  drop_from (suc n) (x ∷ xs) j zero a is at = absurd (omega arith)
  drop_from (suc n) (x ∷ xs) j (suc i) a is at = drop_from n xs j i a (omega arith) at

  pub minus_of : (f : A → ℕ) (b : ℕ) (xs : List A) → map (λ y. y - b) (map f xs) ≡ map (λ a. f a - b) xs
  minus_of f b [] = refl
  minus_of f b (x ∷ xs) = ap (λ (l : List ℕ). (f x - b) ∷ l) (minus_of f b xs)
