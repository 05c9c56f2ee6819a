-- The stores to a word, from the last one back.
use Rattle.std.proofs.Common.{◌≡◌, ℕ, zero, suc, ◌+◌, ◌/◌, ◌%◌, ◌<◌, ◌≤◌, ◌==◌, ◌&&◌, ◌||◌, nat_lt, Bool, true, false, inl, inr, List, [], ◌∷◌, length, get_or, Some, None, refl, sym, ap, subst, ◌∙◌, arith}
use Rattle.std.proofs.lemmas.Bool.{cases_lt}
use Rattle.std.proofs.lemmas.Bool.Decides.{nat_tests}
use Rattle.pages.specs.Memory.{in_range}
use Rattle.round_schedule.specs.declared.event.Event.{Event}
use Rattle.round_schedule.specs.Accesses.{address_of, bytes_of, stores, writes}
use Rattle.round_schedule.specs.Events.{is_serial}
use Rattle.round_schedule.specs.Positions.{event, writes_at}
use Rattle.byte_sources.specs.Sources.{gives, last_below, sees}
use Rattle.trace_events.specs.Writers.{IndexesBy, IsPast, LiesInWord, after_last, is_same_bytes, is_same_doer, stores_word, word_at}

-- what the index after the last one says
pub record IsLast (test : ℕ → Bool) (n w : ℕ) : Type 0 where
  pub below : w < n
  pub passes : test w ≡ true
  pub none : (v : ℕ) → w < v → v < n → test v ≡ false

pub last_is : (test : ℕ → Bool) (n w : ℕ) → after_last test n ≡ suc w → IsLast test n w
last_is test zero w e = absurd (omega (arith, e))
last_is test (suc n) w e = by_test (last_is test n w) (test n) refl e
  where
    by_test : (after_last test n ≡ suc w → IsLast test n w) → (b : Bool) → test n ≡ b → after_last test (suc n) ≡ suc w → IsLast test (suc n) w
    by_test ih true is f =
        let top : after_last test (suc n) ≡ suc n = rw is refl in
        let here : n ≡ w = omega (arith, sym top ∙ f) in
        record {
          below = omega (arith, here);
          passes = subst (λ (k : ℕ). test k ≡ true) here is;
          none = λ v lo hi. absurd (omega (arith, here, lo, hi));
        }
    by_test ih false is f =
        let rest : after_last test (suc n) ≡ after_last test n = rw is refl in
        let l : IsLast test n w = ih (sym rest ∙ f) in
        record {
          below = omega (arith, l.below);
          passes = l.passes;
          none = λ v lo hi. elim (cases_lt v n) [
            | inl lt ↦ l.none v lo lt
            | inr ge ↦ let same : v ≡ n = omega (arith, ge, hi) in subst (λ (k : ℕ). test k ≡ false) (sym same) is
          ];
        }

pub none_is : (test : ℕ → Bool) (n : ℕ) → after_last test n ≡ 0 → (v : ℕ) → v < n → test v ≡ false
none_is test zero e v lt = absurd (omega (arith, lt))
none_is test (suc n) e v lt = by_test (λ f l. none_is test n f v l) (test n) refl e
  where
    by_test : (after_last test n ≡ 0 → v < n → test v ≡ false) → (b : Bool) → test n ≡ b → after_last test (suc n) ≡ 0 → test v ≡ false
    by_test ih true is f = let top : after_last test (suc n) ≡ suc n = rw is refl in absurd (omega (arith, sym top ∙ f))
    by_test ih false is f =
        let rest : after_last test (suc n) ≡ after_last test n = rw is refl in
        elim (cases_lt v n) [
          | inl l ↦ ih (sym rest ∙ f) l
          | inr ge ↦ let same : v ≡ n = omega (arith, ge, lt) in subst (λ (k : ℕ). test k ≡ false) (sym same) is
        ]

pub after_small : (test : ℕ → Bool) (n : ℕ) → after_last test n ≤ n
after_small test zero = omega arith
after_small test (suc n) = by_test (after_small test n) (test n) refl
  where
    by_test : after_last test n ≤ n → (b : Bool) → test n ≡ b → after_last test (suc n) ≤ suc n
    by_test ih true is = rw is (omega arith)
    by_test ih false is = rw is (omega (arith, ih))

-- numbers that don't pass are passed over
pub passed_over : (test : ℕ → Bool) (a n : ℕ) → a ≤ n → ((v : ℕ) → a ≤ v → v < n → test v ≡ false) → last_below test n ≡ last_below test a
passed_over test a zero le none = let same : a ≡ 0 = omega (arith, le) in rw same refl
passed_over test a (suc n) le none = elim (cases_lt n a) [
  | inl lt ↦ let same : suc n ≡ a = omega (arith, lt, le) in ap (last_below test) same
  | inr ge ↦ let no : test n ≡ false = none n ge (omega arith) in rw no (passed_over test a n ge (λ v lo hi. none v lo (omega (arith, hi))))
]

pub found_at : (test : ℕ → Bool) (w : ℕ) → test w ≡ true → last_below test (suc w) ≡ Some w
found_at test w e = rw e refl

pub not_at : (test : ℕ → Bool) (w : ℕ) → test w ≡ false → last_below test (suc w) ≡ last_below test w
not_at test w e = rw e refl

-- a number that is there, whatever stands for those that are not
pub any_default : (xs : List ℕ) (i d e : ℕ) → i < length xs → get_or xs i d ≡ get_or xs i e
any_default [] i d e lt = absurd (omega (arith, lt))
any_default (x ∷ xs) zero d e lt = refl
any_default (x ∷ xs) (suc i) d e lt = any_default xs i d e (omega (arith, lt))

-- ---- who gives a byte stores to its word

pub both : (a b : Bool) → (a && b) ≡ true → (a ≡ true) × (b ≡ true)
both true b e = (refl, e)
both false b e = cc

in_word : (a n x : ℕ) → a % 8 + n ≤ 8 → in_range a n x ≡ true → a / 8 ≡ x / 8
in_word a n x le e = by_bounds (grind (arith, nat_tests)) (grind (arith, nat_tests))
  where
    by_bounds : a ≤ x → x < a + n → a / 8 ≡ x / 8
    by_bounds lo hi = omega (arith, le)

gives_word : (t : List Event) (r : Event) (x v : ℕ) → (stores (event t v).access ≡ true → LiesInWord (event t v)) → gives t r x v ≡ true → stores_word t (x / 8) v ≡ true
gives_word t r x v lies e =
    let g = both (writes_at t v x) (sees r (event t v)) e in
    let s = both (stores (event t v).access) (in_range (address_of (event t v).access) (bytes_of (event t v).access) x) g.0 in
    let same : word_at t v ≡ x / 8 = in_word (address_of (event t v).access) (bytes_of (event t v).access) x (lies s.0) s.1 in
    let test : (word_at t v == x / 8) ≡ true = grind (arith, nat_tests) in
    let st = s.0 in
    rw (st, test) refl

pub gives_none : (t : List Event) (r : Event) (x v : ℕ) → (stores (event t v).access ≡ true → LiesInWord (event t v)) → stores_word t (x / 8) v ≡ false → gives t r x v ≡ false
gives_none t r x v lies none = by_test (gives t r x v) refl
  where
    by_test : (b : Bool) → gives t r x v ≡ b → gives t r x v ≡ false
    by_test false e = e
    by_test true e = let f = gives_word t r x v lies e in let bad : false ≡ true = sym none ∙ f in absurd cc

-- what the call answers of the event at w
pub gives_is : (t : List Event) (index x v : ℕ) (a b : Event) (g is : Bool) → a ≡ event t v → b ≡ event t index → g ≡ (writes a.access x && sees b a) → g ≡ is → gives t (event t index) x v ≡ is
gives_is t index x v a b g is ea eb eg e =
    sym (eg ∙ ap (λ (z : Event). writes z.access x && sees b z) ea ∙ ap (λ (z : Event). writes (event t v).access x && sees z (event t v)) eb) ∙ e

-- ---- events that don't give the byte for the same reason

pub eq_of : (a b : ℕ) → (a == b) ≡ true → a ≡ b
eq_of a b e = grind (arith, nat_tests)

pub is_eq : (a b : ℕ) → a ≡ b → (a == b) ≡ true
is_eq a b e = grind (arith, nat_tests)

right_false : (a b : Bool) → b ≡ false → (a && b) ≡ false
right_false true b e = e
right_false false b e = refl

left_false : (a b : Bool) → a ≡ false → (a && b) ≡ false
left_false a b e = rw e refl

rest_false : (a b : Bool) → a ≡ true → (a && b) ≡ false → b ≡ false
rest_false a b t e = let f : (true && b) ≡ false = subst (λ (z : Bool). (z && b) ≡ false) t e in f

sees_same : (r e f : Event) → e.round ≡ f.round → e.hart ≡ f.hart → sees r e ≡ sees r f
sees_same r e f a b =
    ap (λ (n : ℕ). is_serial r.phase || nat_lt n r.round || e.hart == r.hart) a ∙ ap (λ (h : ℕ). is_serial r.phase || nat_lt f.round r.round || h == r.hart) b

pub unseen_too : (t : List Event) (r : Event) (x u v : ℕ) → sees r (event t v) ≡ false → is_same_doer (event t u) (event t v) ≡ true → gives t r x u ≡ false
unseen_too t r x u v isnt same =
    let d = both ((event t u).round == (event t v).round) ((event t u).hart == (event t v).hart) same in
    right_false (writes_at t u x) (sees r (event t u))
    (sees_same r (event t u) (event t v) (eq_of (event t u).round (event t v).round d.0) (eq_of (event t u).hart (event t v).hart d.1) ∙ isnt)

pub unwritten_too : (t : List Event) (r : Event) (x u v : ℕ) → stores (event t v).access ≡ true → writes (event t v).access x ≡ false →
    is_same_bytes (event t u) (event t v) ≡ true → gives t r x u ≡ false
unwritten_too t r x u v s isnt same =
    let au : ℕ = address_of (event t u).access in
    let av : ℕ = address_of (event t v).access in
    let nu : ℕ = bytes_of (event t u).access in
    let nv : ℕ = bytes_of (event t v).access in
    let d = both (au == av) (nu == nv) same in
    let outside : in_range av nv x ≡ false = rest_false (stores (event t v).access) (in_range av nv x) s isnt in
    let moved : in_range au nu x ≡ in_range av nv x = ap (λ (a : ℕ). in_range a nu x) (eq_of au av d.0) ∙ ap (λ (n : ℕ). in_range av n x) (eq_of nu nv d.1) in
    left_false (writes_at t u x) (sees r (event t u)) (right_false (stores (event t u).access) (in_range au nu x) (moved ∙ outside))

-- ---- one step back

module _ (t : List Event) (index x b : ℕ) (latest others other_bytes : List ℕ) (w : IndexesBy t index latest others other_bytes true) (r : Event) (le : b ≤ index) where
  abbrev G : ℕ → Bool
  G = gives t r x

  abbrev P : ℕ → Bool
  P = stores_word t (x / 8)

  off : (v : ℕ) → v < b → P v ≡ false → G v ≡ false
  off v lt e = gives_none t r x v (λ s. w.words refl v (omega (arith, lt, le)) s) e

  pub at_end : after_last P b ≡ 0 → last_below G b ≡ None
  at_end e = passed_over G 0 b (omega arith) (λ v lo hi. off v hi (none_is P b e v hi))

  pub at_store : (v : ℕ) → after_last P b ≡ suc v → last_below G b ≡ last_below G (suc v)
  at_store v e =
      let l : IsLast P b v = last_is P b v e in
      passed_over G (suc v) b (omega (arith, l.below)) (λ u lo hi. off u hi (l.none u (omega (arith, lo)) hi))

  -- the store before an index
  pub record IsStore (v : ℕ) : Type 0 where
    pub below : v < b
    pub stores_some : stores (event t v).access ≡ true
    pub word : word_at t v ≡ x / 8

  pub store_is : (v : ℕ) → after_last P b ≡ suc v → IsStore v
  store_is v e =
      let l : IsLast P b v = last_is P b v e in
      let s = both (stores (event t v).access) (word_at t v == x / 8) l.passes in
      record { below = l.below; stores_some = s.0; word = eq_of (word_at t v) (x / 8) s.1 }

  -- from a store that doesn't give the byte to what stands past those that don't either
  pub goes_back : (same : Event → Event → Bool) (v s : ℕ) → after_last P b ≡ suc v → IsPast same t v s → G v ≡ false →
      ((u : ℕ) → same (event t u) (event t v) ≡ true → G u ≡ false) → (s ≤ v) × (after_last P s ≡ s) × (last_below G b ≡ last_below G s)
  goes_back same v s e p isnt too =
      let i : IsStore v = store_is v e in
      let test : (u : ℕ) → stores_word t (word_at t v) u ≡ P u = λ u. ap (λ (k : ℕ). stores_word t k u) i.word in
      let none : (u : ℕ) → s ≤ u → u < v → G u ≡ false = λ u lo hi. by_test u lo hi (P u) refl in
      (p.before, ap (λ (k : ℕ). after_last (stores_word t k) s) (sym i.word) ∙ p.at_store, at_store v e ∙ not_at G v isnt ∙ passed_over G s v p.before none)
    where
      by_test : (u : ℕ) → s ≤ u → u < v → (c : Bool) → P u ≡ c → G u ≡ false
      by_test u lo hi true is = too u (p.alike u lo hi (ap (λ (k : ℕ). stores_word t k u) (store_is v e).word ∙ is))
      by_test u lo hi false is = off u (omega (arith, hi, (store_is v e).below)) is

  -- past those that another hart did in the same round
  pub past_unseen : (v : ℕ) → after_last P b ≡ suc v → x / 8 < length latest → sees r (event t v) ≡ false →
      (get_or others v 0 ≤ v) × (after_last P (get_or others v 0) ≡ get_or others v 0) × (last_below G b ≡ last_below G (get_or others v 0))
  past_unseen v e low isnt =
      let i : IsStore v = store_is v e in
      goes_back is_same_doer v (get_or others v 0) e (w.past_own v (omega (arith, i.below, le)) i.stores_some (omega (arith, i.word, low)))
      (right_false (writes_at t v x) (sees r (event t v)) isnt) (λ u same. unseen_too t r x u v isnt same)

  -- past those of other bytes of the word
  pub past_unwritten : (v : ℕ) → after_last P b ≡ suc v → x / 8 < length latest → writes (event t v).access x ≡ false →
      (get_or other_bytes v 0 ≤ v) × (after_last P (get_or other_bytes v 0) ≡ get_or other_bytes v 0) × (last_below G b ≡ last_below G (get_or other_bytes v 0))
  past_unwritten v e low isnt =
      let i : IsStore v = store_is v e in
      goes_back is_same_bytes v (get_or other_bytes v 0) e (w.past_bytes v (omega (arith, i.below, le)) i.stores_some (omega (arith, i.word, low)))
      (left_false (writes_at t v x) (sees r (event t v)) isnt) (λ u same. unwritten_too t r x u v i.stores_some isnt same)
