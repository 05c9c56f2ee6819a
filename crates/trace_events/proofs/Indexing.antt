-- An index of stores with one more event.
use Rattle.std.proofs.Common.{◌≡◌, Result, Ok, Err, OnOk, ℕ, zero, suc, ◌+◌, ◌/◌, ◌<◌, ◌≤◌, ◌==◌, ◌&&◌, Bool, true, false, inl, inr, List, [], ◌∷◌, ◌++◌, length, get_or, slice_set, refl, sym, ap, subst, ◌∙◌, arith}
use Rattle.std.proofs.lemmas.Bool.{cases_eq, cases_lt}
use Rattle.std.proofs.lemmas.Bool.Decides.{nat_tests}
use Rattle.std.proofs.lemmas.Grind.{common_steps}
use Rattle.pages.specs.declared.out_of_memory.OutOfMemory.{OutOfMemory}
use Rattle.round_schedule.specs.declared.event.Event.{Event}
use Rattle.round_schedule.specs.Accesses.{address_of, bytes_of, stores}
use Rattle.round_schedule.specs.Positions.{event}
use Rattle.trace_events.specs.Writers.{IndexesBy, IsPast, LiesInWord, after_last, is_same_bytes, is_same_doer, past, stores_word, word_at}
use Rattle.trace_events.proofs.Walking.{IsLast, after_small, both, eq_of, is_eq, last_is, none_is}

-- ---- one more number

pub not_last : (test : ℕ → Bool) (n : ℕ) → test n ≡ false → after_last test (n + 1) ≡ after_last test n
not_last test n e = let next : n + 1 ≡ suc n = omega arith in rw (next, e) refl

pub is_last : (test : ℕ → Bool) (n : ℕ) → test n ≡ true → after_last test (n + 1) ≡ n + 1
is_last test n e = let next : n + 1 ≡ suc n = omega arith in rw (next, e) refl

no_store : (t : List Event) (k n : ℕ) → stores (event t n).access ≡ false → stores_word t k n ≡ false
no_store t k n e = rw e refl

other_word : (t : List Event) (k n : ℕ) → (word_at t n ≡ k → ⊥) → stores_word t k n ≡ false
other_word t k n other = by_test (stores (event t n).access) (not_equal (word_at t n) k other)
  where
    not_equal : (a b : ℕ) → (a ≡ b → ⊥) → (a == b) ≡ false
    not_equal a b h = grind (arith, nat_tests)

    by_test : (b : Bool) → (word_at t n == k) ≡ false → (b && (word_at t n == k)) ≡ false
    by_test true e = e
    by_test false e = refl

same_word : (t : List Event) (n : ℕ) → stores (event t n).access ≡ true → stores_word t (word_at t n) n ≡ true
same_word t n e = let same : (word_at t n == word_at t n) ≡ true = grind (arith, nat_tests) in rw (e, same) refl

-- ---- the lists

front : (xs : List ℕ) (x i n : ℕ) → length xs ≡ n → i < n → get_or (xs ++ x ∷ []) i 0 ≡ get_or xs i 0
front xs x i n size lt = grind (arith, common_steps)

end : (xs : List ℕ) (x n : ℕ) → length xs ≡ n → get_or (xs ++ x ∷ []) n 0 ≡ x
end xs x n size = grind (arith, common_steps)

longer : (xs : List ℕ) (x n : ℕ) → length xs ≡ n → length (xs ++ x ∷ []) ≡ n + 1
longer xs x n size = grind (arith, common_steps)

-- what stands past each store, with one more event
past_more : (same : Event → Event → Bool) (t : List Event) (n x size : ℕ) (found : List ℕ) → length found ≡ n →
    ((i : ℕ) → i < n → stores (event t i).access ≡ true → word_at t i < size → IsPast same t i (get_or found i 0)) →
    (stores (event t n).access ≡ true → word_at t n < size → IsPast same t n x) →
    (i : ℕ) → i < n + 1 → stores (event t i).access ≡ true → word_at t i < size → IsPast same t i (get_or (found ++ x ∷ []) i 0)
past_more same t n x size found many old here i lt s l = elim (cases_lt i n) [
  | inl low ↦ subst (IsPast same t i) (sym (front found x i n many low)) (old i low s l)
  | inr ge ↦
      let is : i ≡ n = omega (arith, lt, ge) in
      subst (λ (j : ℕ). stores (event t j).access ≡ true → word_at t j < size → IsPast same t j (get_or (found ++ x ∷ []) j 0)) (sym is)
      (λ st lw. subst (IsPast same t n) (sym (end found x n many)) (here st lw)) s l
]

unlike : false ≡ true → ⊥
unlike e = cc

-- what stands past a store, by the last store before it to its word
past_is : (same : Event → Event → Bool) → ((e f g : Event) → same e f ≡ true → same f g ≡ true → same e g ≡ true) →
    (t : List Event) (n size : ℕ) (found : List ℕ) →
    ((i : ℕ) → i < n → stores (event t i).access ≡ true → word_at t i < size → IsPast same t i (get_or found i 0)) → word_at t n < size →
    (b : ℕ) → after_last (stores_word t (word_at t n)) n ≡ b → IsPast same t n (past same t found n b)
past_is same chains t n size found old low zero e = record {
  before = omega arith;
  at_store = refl;
  alike = λ v lo hi s. absurd (unlike (sym (none_is (stores_word t (word_at t n)) n e v hi) ∙ s));
}
past_is same chains t n size found old low (suc w) e = by_test (same (event t w) (event t n)) refl
  where
    l : IsLast (stores_word t (word_at t n)) n w
    l = last_is (stores_word t (word_at t n)) n w e

    of_last : (v : ℕ) → w < v → v < n → stores_word t (word_at t n) v ≡ true → same (event t v) (event t n) ≡ true
    of_last v lo hi s = absurd (unlike (sym (l.none v lo hi) ∙ s))

    by_test : (c : Bool) → same (event t w) (event t n) ≡ c → IsPast same t n (past same t found n (suc w))
    by_test true is =
        let s = both (stores (event t w).access) (word_at t w == word_at t n) l.passes in
        let word : word_at t w ≡ word_at t n = eq_of (word_at t w) (word_at t n) s.1 in
        let q : IsPast same t w (get_or found w 0) = old w l.below s.0 (omega (arith, word, low)) in
        let found_is : past same t found n (suc w) ≡ get_or found w 0 = rw is refl in
        let result : IsPast same t n (get_or found w 0) =
        record {
          before = omega (arith, q.before, l.below);
          at_store = ap (λ (k : ℕ). after_last (stores_word t k) (get_or found w 0)) (sym word) ∙ q.at_store;
          alike = λ v lo hi p. elim (cases_lt v w) [
            | inl lt ↦ chains (event t v) (event t w) (event t n) (q.alike v lo lt (ap (λ (k : ℕ). stores_word t k v) word ∙ p)) is
            | inr ge ↦ elim (cases_lt w v) [
              | inl more ↦ of_last v more hi p
              | inr le ↦ let here : w ≡ v = omega (arith, ge, le) in subst (λ (k : ℕ). same (event t k) (event t n) ≡ true) here is
            ]
          ];
        } in
        subst (IsPast same t n) (sym found_is) result
    by_test false is =
        let found_is : past same t found n (suc w) ≡ suc w = rw is refl in
        let next : w + 1 ≡ suc w = omega arith in
        let here : after_last (stores_word t (word_at t n)) (suc w) ≡ suc w = subst (λ (k : ℕ). after_last (stores_word t (word_at t n)) k ≡ k) next (is_last (stores_word t (word_at t n)) w l.passes) in
        let result : IsPast same t n (suc w) =
        record {
          before = omega (arith, l.below);
          at_store = here;
          alike = λ v lo hi p. of_last v (omega (arith, lo)) hi p;
        } in
        subst (IsPast same t n) (sym found_is) result

-- two tests of equal numbers go on
chained : (a b c d e f : ℕ) → ((a == c) && (b == d)) ≡ true → ((c == e) && (d == f)) ≡ true → ((a == e) && (b == f)) ≡ true
chained a b c d e f p q =
    let l = both (a == c) (b == d) p in
    let r = both (c == e) (d == f) q in
    let first : (a == e) ≡ true = is_eq a e (eq_of a c l.0 ∙ eq_of c e r.0) in
    let second : (b == f) ≡ true = is_eq b f (eq_of b d l.1 ∙ eq_of d f r.1) in
    rw (first, second) refl

doers_chain : (e f g : Event) → is_same_doer e f ≡ true → is_same_doer f g ≡ true → is_same_doer e g ≡ true
doers_chain e f g p q = chained e.round e.hart f.round f.hart g.round g.hart p q

bytes_chain : (e f g : Event) → is_same_bytes e f ≡ true → is_same_bytes f g ≡ true → is_same_bytes e g ≡ true
bytes_chain e f g p q =
    chained (address_of e.access) (bytes_of e.access) (address_of f.access) (bytes_of f.access) (address_of g.access) (bytes_of g.access) p q

words_more : (t : List Event) (n : ℕ) (exact more : Bool) → (exact ≡ true → (i : ℕ) → i < n → stores (event t i).access ≡ true → LiesInWord (event t i)) →
    (more ≡ true → exact ≡ true) → (more ≡ true → stores (event t n).access ≡ true → LiesInWord (event t n)) →
    more ≡ true → (i : ℕ) → i < n + 1 → stores (event t i).access ≡ true → LiesInWord (event t i)
words_more t n exact more old was here e i lt s = elim (cases_lt i n) [
  | inl low ↦ old (was e) i low s
  | inr ge ↦
      let same : i ≡ n = omega (arith, lt, ge) in
      subst (λ (j : ℕ). stores (event t j).access ≡ true → LiesInWord (event t j)) (sym same) (here e) s
]

-- ---- the index

-- with one more event, which isn't a store, or none to a word of the table
pub add_aside : (t : List Event) (n : ℕ) (latest others other_bytes : List ℕ) (exact more : Bool) → IndexesBy t n latest others other_bytes exact →
    (stores (event t n).access ≡ true → length latest ≤ word_at t n) → (more ≡ true → exact ≡ true) →
    (more ≡ true → stores (event t n).access ≡ true → LiesInWord (event t n)) → IndexesBy t (n + 1) latest (others ++ 0 ∷ []) (other_bytes ++ 0 ∷ []) more
add_aside t n latest others other_bytes exact more w out was here = record {
  size = longer others 0 n w.size;
  other_size = longer other_bytes 0 n w.other_size;
  last_stores = λ k lt. w.last_stores k lt ∙ sym (not_last (stores_word t k) n (aside k lt (stores (event t n).access) refl));
  past_own = past_more is_same_doer t n 0 (length latest) others w.size w.past_own (λ s l. absurd (omega (arith, l, out s)));
  past_bytes = past_more is_same_bytes t n 0 (length latest) other_bytes w.other_size w.past_bytes (λ s l. absurd (omega (arith, l, out s)));
  words = words_more t n exact more w.words was here;
}
  where
    aside : (k : ℕ) → k < length latest → (b : Bool) → stores (event t n).access ≡ b → stores_word t k n ≡ false
    aside k lt true s = other_word t k n (λ e. absurd (omega (arith, lt, out s, e)))
    aside k lt false s = no_store t k n s

set_here : (xs : List ℕ) (i v : ℕ) → i < length xs → get_or (slice_set xs i v) i 0 ≡ v
set_here xs i v lt = grind (arith, common_steps)

set_there : (xs : List ℕ) (i k v : ℕ) → (i ≡ k → ⊥) → get_or (slice_set xs i v) k 0 ≡ get_or xs k 0
set_there xs i k v other = grind (arith, common_steps)

set_length : (xs : List ℕ) (i v : ℕ) → length (slice_set xs i v) ≡ length xs
set_length xs i v = grind (arith, common_steps)

pub add_inside : (t : List Event) (n : ℕ) (latest others other_bytes : List ℕ) (exact more : Bool) → IndexesBy t n latest others other_bytes exact →
    stores (event t n).access ≡ true → word_at t n < length latest → (more ≡ true → exact ≡ true) → (more ≡ true → LiesInWord (event t n)) →
    (b : ℕ) → get_or latest (word_at t n) 0 ≡ b →
    IndexesBy t (n + 1) (slice_set latest (word_at t n) (n + 1)) (others ++ past is_same_doer t others n b ∷ []) (other_bytes ++ past is_same_bytes t other_bytes n b ∷ []) more
add_inside t n latest others other_bytes exact more w s low was here b is =
    let size = set_length latest (word_at t n) (n + 1) in
    let last : after_last (stores_word t (word_at t n)) n ≡ b = sym (w.last_stores (word_at t n) low) ∙ is in
    record {
      size = longer others (past is_same_doer t others n b) n w.size;
      other_size = longer other_bytes (past is_same_bytes t other_bytes n b) n w.other_size;
      last_stores = λ k lt. elim (cases_eq (word_at t n) k) [
        | inl same ↦
            subst (λ (j : ℕ). get_or (slice_set latest (word_at t n) (n + 1)) j 0 ≡ after_last (stores_word t j) (n + 1)) same
            (set_here latest (word_at t n) (n + 1) low ∙ sym (is_last (stores_word t (word_at t n)) n (same_word t n s)))
        | inr other ↦
            set_there latest (word_at t n) k (n + 1) other ∙ w.last_stores k (omega (arith, lt, size)) ∙ sym (not_last (stores_word t k) n (other_word t k n other))
      ];
      past_own = λ i lt st l.
          past_more is_same_doer t n (past is_same_doer t others n b) (length latest) others w.size w.past_own
          (λ _ lw. past_is is_same_doer doers_chain t n (length latest) others w.past_own lw b last) i lt st (omega (arith, l, size));
      past_bytes = λ i lt st l.
          past_more is_same_bytes t n (past is_same_bytes t other_bytes n b) (length latest) other_bytes w.other_size w.past_bytes
          (λ _ lw. past_is is_same_bytes bytes_chain t n (length latest) other_bytes w.past_bytes lw b last) i lt st (omega (arith, l, size));
      words = words_more t n exact more w.words was (λ e _. here e);
    }

-- ---- as the call has it

default : (xs : List ℕ) (i e : ℕ) → i < length xs → get_or xs i e ≡ get_or xs i 0
default xs i e lt = grind (arith, common_steps)

-- the last store before it to its word
pub before_is : (t : List Event) (n : ℕ) (latest others other_bytes : List ℕ) (exact : Bool) (a : Event) (word b d : ℕ) → IndexesBy t n latest others other_bytes exact →
    a ≡ event t n → word ≡ address_of a.access / 8 → word < length latest → b ≡ get_or latest word d → get_or latest (word_at t n) 0 ≡ b
before_is t n latest others other_bytes exact a word b d w ea ew low eb =
    let word_is : word ≡ word_at t n = ew ∙ ap (λ (z : Event). address_of z.access / 8) ea in
    sym (eb ∙ default latest word d low ∙ ap (λ (k : ℕ). get_or latest k 0) word_is)

pub before_low : (t : List Event) (n : ℕ) (latest others other_bytes : List ℕ) (exact : Bool) (a : Event) (word b d : ℕ) → IndexesBy t n latest others other_bytes exact →
    a ≡ event t n → word ≡ address_of a.access / 8 → word < length latest → b ≡ get_or latest word d → b ≤ n
before_low t n latest others other_bytes exact a word b d w ea ew low eb =
    let word_is : word ≡ word_at t n = ew ∙ ap (λ (z : Event). address_of z.access / 8) ea in
    let is : get_or latest (word_at t n) 0 ≡ b = before_is t n latest others other_bytes exact a word b d w ea ew low eb in
    let last : get_or latest (word_at t n) 0 ≡ after_last (stores_word t (word_at t n)) n = w.last_stores (word_at t n) (omega (arith, low, word_is)) in
    omega (arith, is, last, after_small (stores_word t (word_at t n)) n)

pub added : (t : List Event) (n : ℕ) (latest others other_bytes : List ℕ) (exact more s : Bool) (a : Event) (word b d x y : ℕ) (fs gs : List ℕ) →
    IndexesBy t n latest others other_bytes exact → a ≡ event t n → s ≡ stores a.access → s ≡ true → word ≡ address_of a.access / 8 → word < length latest →
    (more ≡ true → exact ≡ true) → (more ≡ true → LiesInWord a) → b ≡ get_or latest word d → fs ≡ others → gs ≡ other_bytes → x ≡ past is_same_doer t fs n b → y ≡ past is_same_bytes t gs n b →
    IndexesBy t (n + 1) (slice_set latest word (n + 1)) (others ++ x ∷ []) (other_bytes ++ y ∷ []) more
added t n latest others other_bytes exact more s a word b d x y fs gs w ea es e ew low was here eb ef eg ex ey =
    let is_store : stores (event t n).access ≡ true = ap (λ (z : Event). stores z.access) (sym ea) ∙ sym es ∙ e in
    let word_is : word_at t n ≡ word = sym (ew ∙ ap (λ (z : Event). address_of z.access / 8) ea) in
    let lies : more ≡ true → LiesInWord (event t n) = λ m. subst LiesInWord ea (here m) in
    let low_at : word_at t n < length latest = omega (arith, low, word_is) in
    let is : get_or latest (word_at t n) 0 ≡ b = before_is t n latest others other_bytes exact a word b d w ea ew low eb in
    let x_is : past is_same_doer t others n b ≡ x = sym (ex ∙ ap (λ (z : List ℕ). past is_same_doer t z n b) ef) in
    let y_is : past is_same_bytes t other_bytes n b ≡ y = sym (ey ∙ ap (λ (z : List ℕ). past is_same_bytes t z n b) eg) in
    subst (λ (k : ℕ). IndexesBy t (n + 1) (slice_set latest k (n + 1)) (others ++ x ∷ []) (other_bytes ++ y ∷ []) more) word_is
    (subst (λ (z : ℕ). IndexesBy t (n + 1) (slice_set latest (word_at t n) (n + 1)) (others ++ z ∷ []) (other_bytes ++ y ∷ []) more) x_is
    (subst (λ (z : ℕ). IndexesBy t (n + 1) (slice_set latest (word_at t n) (n + 1)) (others ++ past is_same_doer t others n b ∷ []) (other_bytes ++ z ∷ []) more) y_is
    (add_inside t n latest others other_bytes exact more w is_store low_at was lies b is)))

-- one with no store, and one with a store to no word of the table
pub added_none : (t : List Event) (n : ℕ) (latest others other_bytes : List ℕ) (exact s : Bool) (a : Event) → IndexesBy t n latest others other_bytes exact →
    a ≡ event t n → s ≡ stores a.access → s ≡ false → IndexesBy t (n + 1) latest (others ++ 0 ∷ []) (other_bytes ++ 0 ∷ []) exact
added_none t n latest others other_bytes exact s a w ea es e =
    let none : stores (event t n).access ≡ false = ap (λ (z : Event). stores z.access) (sym ea) ∙ sym es ∙ e in
    add_aside t n latest others other_bytes exact exact w (λ st. absurd (unlike (sym none ∙ st))) (λ m. m) (λ m st. absurd (unlike (sym none ∙ st)))

pub added_outside : (t : List Event) (n : ℕ) (latest others other_bytes : List ℕ) (exact more : Bool) (a : Event) (word : ℕ) → IndexesBy t n latest others other_bytes exact →
    a ≡ event t n → word ≡ address_of a.access / 8 → length latest ≤ word → (more ≡ true → exact ≡ true) → (more ≡ true → LiesInWord a) →
    IndexesBy t (n + 1) latest (others ++ 0 ∷ []) (other_bytes ++ 0 ∷ []) more
added_outside t n latest others other_bytes exact more a word w ea ew out was here =
    let word_is : word_at t n ≡ word = sym (ew ∙ ap (λ (z : Event). address_of z.access / 8) ea) in
    add_aside t n latest others other_bytes exact more w (λ st. omega (arith, out, word_is)) was (λ m st. subst LiesInWord ea (here m))

-- it is noted, where there was memory for that
pub noted : (r : Result (Unit {0}) OutOfMemory) (t : List Event) (n : ℕ) (latest others other_bytes new_others new_bytes : List ℕ) (exact more : Bool) (last : List ℕ) →
    IndexesBy t n latest others other_bytes exact → last ≡ latest → OnOk r (new_others ≡ others) → OnOk r (new_bytes ≡ other_bytes) → more ≡ exact →
    OnOk r (IndexesBy t n last new_others new_bytes more)
noted (Err e) t n latest others other_bytes new_others new_bytes exact more last w el eo eb em = tt
noted (Ok u) t n latest others other_bytes new_others new_bytes exact more last w el eo eb em =
    subst (λ (z : List ℕ). IndexesBy t n z new_others new_bytes more) (sym el)
    (subst (λ (z : List ℕ). IndexesBy t n latest z new_bytes more) (sym eo)
    (subst (λ (z : List ℕ). IndexesBy t n latest others z more) (sym eb)
    (subst (λ (z : Bool). IndexesBy t n latest others other_bytes z) (sym em) w)))
