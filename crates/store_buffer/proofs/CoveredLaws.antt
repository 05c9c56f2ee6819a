-- Laws of the bytes of a store buffer: they leave what the stores that were put leave.
use Rattle.std.proofs.Common.{◌≡◌, ℕ, zero, suc, ◌+◌, ◌-◌, ◌*◌, ◌/◌, ◌%◌, ◌^◌, ◌<◌, ◌≤◌, ◌==◌, nat_lt, List, [], ◌∷◌, ◌++◌, refl, sym, ap, subst, ◌∙◌, arith, Bool, true, false, ◌||◌, if◌then◌else◌, ◌⊎◌, ⊎_elim, Option, Some, None, unwrap_or, is_some}
use Rattle.std.proofs.lemmas.Bool.{cases_lt, cases_eq, cases_order, cond_above, cond_below, eq-eqb, ne_eqb}
use Rattle.std.proofs.lemmas.Bool.Decides.{nat_tests}
use Rattle.std.proofs.lemmas.Nat.{pow-add}
use Rattle.std.proofs.Math.Nat.{div-div-eq-div-mul, div-one, mod-eq_of_lt}
use Rattle.pages.specs.declared.access.Store.{Store}
use Rattle.pages.specs.Memory.{after, byte_of, byte_put, covered, covers, in_range, last_byte, put, width_bytes}
use Rattle.pages.proofs.StoreLaws.{after-append, last_byte-append, same_after}
use Rattle.store_buffer.specs.Covered.{Rising, byte_at, stores_of, with_byte, with_bytes, with_store, with_stores}

-- what a test decides, as cases
by_eq : {X : Type 0} (a b : ℕ) (x y z : X) → (a ≡ b → z ≡ x) → ((a ≡ b → ⊥) → z ≡ y) → z ≡ (if a == b then x else y)
by_eq a b x y z there elsewhere = ⊎_elim (λ e. there e ∙ ap (λ t. if t then x else y) (sym (eq-eqb a b e))) (λ n. elsewhere n ∙ ap (λ t. if t then x else y) (sym (ne_eqb a b n))) (cases_eq a b)

at_same : {X : Type 0} (a b : ℕ) (x y : X) → a ≡ b → (if a == b then x else y) ≡ x
at_same a b x y e = ap (λ t. if t then x else y) (eq-eqb a b e)

at_other : {X : Type 0} (a b : ℕ) (x y : X) → (a ≡ b → ⊥) → (if a == b then x else y) ≡ y
at_other a b x y n = ap (λ t. if t then x else y) (ne_eqb a b n)

at_below : {X : Type 0} (a b : ℕ) (x y : X) → a < b → (if nat_lt a b then x else y) ≡ x
at_below a b x y h = sym (cond_below a b x y h)

at_above : {X : Type 0} (a b : ℕ) (x y : X) → b ≤ a → (if nat_lt a b then x else y) ≡ y
at_above a b x y h = sym (cond_above a b x y y h refl)

-- the byte at an address after one was put
pub byte_at-with_byte : (es : List (ℕ × ℕ)) (a b x : ℕ) → byte_at (with_byte es a b) x ≡ (if a == x then Some b else byte_at es x)
byte_at-with_byte [] a b x = refl
byte_at-with_byte (e ∷ es) a b x =
    ⊎_elim
    (λ (same : a ≡ e.0).
    let ge : e.0 ≤ a = omega arith in
    ap (λ zs. byte_at zs x) (at_above a e.0 ((a, b) ∷ e ∷ es) (if a == e.0 then (a, b) ∷ es else e ∷ with_byte es a b) ge ∙ at_same a e.0 ((a, b) ∷ es) (e ∷ with_byte es a b) same)
    ∙ by_eq a x (Some b) (byte_at (e ∷ es) x) (if a == x then Some b else byte_at es x)
    (λ h. at_same a x (Some b) (byte_at es x) h)
    (λ n. at_other a x (Some b) (byte_at es x) n ∙ sym (at_other e.0 x (Some e.1) (byte_at es x) (λ h. n (same ∙ h)))))
    (λ (other : (a < e.0) ⊎ (e.0 < a)).
    ⊎_elim
    (λ (lt : a < e.0). ap (λ zs. byte_at zs x) (at_below a e.0 ((a, b) ∷ e ∷ es) (if a == e.0 then (a, b) ∷ es else e ∷ with_byte es a b) lt))
    (λ (gt : e.0 < a).
    let ge : e.0 ≤ a = omega arith in
    let ne : a ≡ e.0 → ⊥ = λ h. omega arith in
    ap (λ zs. byte_at zs x) (at_above a e.0 ((a, b) ∷ e ∷ es) (if a == e.0 then (a, b) ∷ es else e ∷ with_byte es a b) ge ∙ at_other a e.0 ((a, b) ∷ es) (e ∷ with_byte es a b) ne)
    ∙ ap (λ z. if e.0 == x then Some e.1 else z) (byte_at-with_byte es a b x)
    ∙ by_eq a x (Some b) (byte_at (e ∷ es) x) (if e.0 == x then Some e.1 else (if a == x then Some b else byte_at es x))
    (λ h. at_other e.0 x (Some e.1) (if a == x then Some b else byte_at es x) (λ k. ne (h ∙ sym k)) ∙ at_same a x (Some b) (byte_at es x) h)
    (λ n. ap (λ z. if e.0 == x then Some e.1 else z) (at_other a x (Some b) (byte_at es x) n)))
    other)
    (cases_order a e.0)

none_in : (a k : ℕ) → in_range a 0 k ≡ false
none_in a k = grind (arith, nat_tests)

in_first : (a n k : ℕ) → a ≡ k → in_range a (suc n) k ≡ true
in_first a n k h = grind (arith, nat_tests)

not_in_next : (a n k : ℕ) → a ≡ k → in_range (a + 1) n k ≡ false
not_in_next a n k h = grind (arith, nat_tests)

in_other : (a n k : ℕ) → (a ≡ k → ⊥) → in_range a (suc n) k ≡ in_range (a + 1) n k
in_other a n k h = grind (arith, nat_tests)

first_byte : (v a k : ℕ) → a ≡ k → v % 2 ^ 8 ≡ byte_of v (k - a)
first_byte v a k h =
    let none : 0 ≡ 8 * (k - a) = omega arith in
    ap (λ x. x % 2 ^ 8) (sym (div-one v)) ∙ ap (λ j. v / 2 ^ j % 2 ^ 8) none

shift_on : (v a k : ℕ) → a < k → byte_of (v / 2 ^ 8) (k - (a + 1)) ≡ byte_of v (k - a)
shift_on v a k h =
    let m = 8 * (k - (a + 1)) in
    let size : 8 + m ≡ 8 * (k - a) = omega arith in
    ap (λ x. x % 2 ^ 8) (div-div-eq-div-mul v (2 ^ 8) (2 ^ m) ∙ ap (λ x. v / x) (sym (pow-add 2 8 m) ∙ ap (λ j. 2 ^ j) size))

before_none : (a n k : ℕ) → k < a → in_range a n k ≡ false
before_none a n k h = grind (arith, nat_tests)

-- the byte at an address after several were put
pub byte_at-with_bytes : (n : ℕ) (es : List (ℕ × ℕ)) (a v x : ℕ) → byte_at (with_bytes es a v n) x ≡ (if in_range a n x then Some (byte_of v (x - a)) else byte_at es x)
byte_at-with_bytes zero es a v x = ap (λ t. if t then Some (byte_of v (x - a)) else byte_at es x) (sym (none_in a x))
byte_at-with_bytes (suc n) es a v x =
    let b = v % 2 ^ 8 in
    byte_at-with_bytes n (with_byte es a b) (a + 1) (v / 2 ^ 8) x
    ∙ ap (λ z. if in_range (a + 1) n x then Some (byte_of (v / 2 ^ 8) (x - (a + 1))) else z) (byte_at-with_byte es a b x)
    ∙ ⊎_elim
    (λ (same : a ≡ x).
    ap (λ t. if t then Some (byte_of (v / 2 ^ 8) (x - (a + 1))) else (if a == x then Some b else byte_at es x)) (not_in_next a n x same)
    ∙ at_same a x (Some b) (byte_at es x) same ∙ ap (λ y. Some y) (first_byte v a x same)
    ∙ sym (ap (λ t. if t then Some (byte_of v (x - a)) else byte_at es x) (in_first a n x same)))
    (λ (other : a ≡ x → ⊥).
    ap (λ z. if in_range (a + 1) n x then Some (byte_of (v / 2 ^ 8) (x - (a + 1))) else z) (at_other a x (Some b) (byte_at es x) other)
    ∙ ⊎_elim
    (λ (lt : x < a).
    let lt' : x < a + 1 = omega arith in
    ap (λ t. if t then Some (byte_of (v / 2 ^ 8) (x - (a + 1))) else byte_at es x) (before_none (a + 1) n x lt')
    ∙ sym (ap (λ t. if t then Some (byte_of v (x - a)) else byte_at es x) (before_none a (suc n) x lt)))
    (λ (ge : a ≤ x).
    let gt : a < x = omega arith in
    ap (λ y. if in_range (a + 1) n x then Some y else byte_at es x) (shift_on v a x gt)
    ∙ ap (λ t. if t then Some (byte_of v (x - a)) else byte_at es x) (sym (in_other a n x other)))
    (cases_lt x a))
    (cases_eq a x)

-- the byte at an address after one store more
pub byte_at-with_store : (es : List (ℕ × ℕ)) (s : Store) (x : ℕ) → byte_at (with_store es s) x ≡ (if covers s x then Some (byte_put s x) else byte_at es x)
unfolding with_store
byte_at-with_store es s x = byte_at-with_bytes (width_bytes s.width) es s.address s.value x

pub rising_from : (low high : ℕ) (es : List (ℕ × ℕ)) → low ≤ high → Rising high es → Rising low es
rising_from low high [] l h = tt
rising_from low high (e ∷ es) l h = (omega (arith, h.0), h.1, h.2)

rising_with_byte : (low : ℕ) (es : List (ℕ × ℕ)) (a b : ℕ) → low ≤ a → b < 2 ^ 8 → Rising low es → Rising low (with_byte es a b)
rising_with_byte low [] a b l s h = (l, s, tt)
rising_with_byte low (e ∷ es) a b l s h =
    ⊎_elim
    (λ (same : a ≡ e.0).
    let ge : e.0 ≤ a = omega arith in
    let here : Rising low ((a, b) ∷ es) = (l, s, subst (λ k. Rising (k + 1) es) (sym same) h.2) in
    subst (λ (zs : List (ℕ × ℕ)). Rising low zs) (sym (at_above a e.0 ((a, b) ∷ e ∷ es) (if a == e.0 then (a, b) ∷ es else e ∷ with_byte es a b) ge ∙ at_same a e.0 ((a, b) ∷ es) (e ∷ with_byte es a b) same)) here)
    (λ (other : (a < e.0) ⊎ (e.0 < a)).
    ⊎_elim
    (λ (lt : a < e.0).
    let here : Rising low ((a, b) ∷ e ∷ es) = (l, s, (omega arith, h.1, h.2)) in
    subst (λ (zs : List (ℕ × ℕ)). Rising low zs) (sym (at_below a e.0 ((a, b) ∷ e ∷ es) (if a == e.0 then (a, b) ∷ es else e ∷ with_byte es a b) lt)) here)
    (λ (gt : e.0 < a).
    let ge : e.0 ≤ a = omega arith in
    let ne : a ≡ e.0 → ⊥ = λ h. omega arith in
    let here : Rising low (e ∷ with_byte es a b) = (h.0, h.1, rising_with_byte (e.0 + 1) es a b (omega arith) s h.2) in
    subst (λ (zs : List (ℕ × ℕ)). Rising low zs) (sym (at_above a e.0 ((a, b) ∷ e ∷ es) (if a == e.0 then (a, b) ∷ es else e ∷ with_byte es a b) ge ∙ at_other a e.0 ((a, b) ∷ es) (e ∷ with_byte es a b) ne)) here)
    other)
    (cases_order a e.0)

low_byte : (v : ℕ) → v % 2 ^ 8 < 2 ^ 8
low_byte v = omega arith

rising_with_bytes : (n : ℕ) (es : List (ℕ × ℕ)) (a v : ℕ) → Rising 0 es → Rising 0 (with_bytes es a v n)
rising_with_bytes zero es a v h = h
rising_with_bytes (suc n) es a v h = rising_with_bytes n (with_byte es a (v % 2 ^ 8)) (a + 1) (v / 2 ^ 8) (rising_with_byte 0 es a (v % 2 ^ 8) (omega arith) (low_byte v) h)

-- one store more keeps the order
pub rising_with_store : (es : List (ℕ × ℕ)) (s : Store) → Rising 0 es → Rising 0 (with_store es s)
unfolding with_store
rising_with_store es s h = rising_with_bytes (width_bytes s.width) es s.address s.value h

pub rising_with_stores : (es : List (ℕ × ℕ)) (ss : List Store) → Rising 0 es → Rising 0 (with_stores es ss)
rising_with_stores es [] h = h
rising_with_stores es (s ∷ ss) h = rising_with_stores (with_store es s) ss (rising_with_store es s h)

-- below the first address there is no byte
pub byte_at-below : (low : ℕ) (es : List (ℕ × ℕ)) (x : ℕ) → x < low → Rising low es → byte_at es x ≡ None
byte_at-below low [] x l h = refl
byte_at-below low (e ∷ es) x l h =
    at_other e.0 x (Some e.1) (byte_at es x) (λ same. omega (arith, h.0)) ∙ byte_at-below (e.0 + 1) es x (omega (arith, h.0)) h.2

-- two buffers with the same bytes are one
pub same_bytes : (low high : ℕ) (es fs : List (ℕ × ℕ)) → Rising low es → Rising high fs → ((x : ℕ) → byte_at es x ≡ byte_at fs x) → es ≡ fs
same_bytes low high [] [] h k same = refl
same_bytes low high [] (f ∷ fs) h k same = let absent : None ≡ Some f.1 = same f.0 ∙ at_same f.0 f.0 (Some f.1) (byte_at fs f.0) refl in cc
same_bytes low high (e ∷ es) [] h k same = let absent : Some e.1 ≡ None = sym (at_same e.0 e.0 (Some e.1) (byte_at es e.0) refl) ∙ same e.0 in cc
same_bytes low high (e ∷ es) (f ∷ fs) h k same =
    let there : byte_at (f ∷ fs) e.0 ≡ Some e.1 = sym (same e.0) ∙ at_same e.0 e.0 (Some e.1) (byte_at es e.0) refl in
    let here : byte_at (e ∷ es) f.0 ≡ Some f.1 = same f.0 ∙ at_same f.0 f.0 (Some f.1) (byte_at fs f.0) refl in
    ⊎_elim
    (λ (at : e.0 ≡ f.0).
    let value : e.1 ≡ f.1 = some_same e.1 f.1 (sym there ∙ at_same f.0 e.0 (Some f.1) (byte_at fs e.0) (sym at)) in
    let rest : es ≡ fs = same_bytes (e.0 + 1) (f.0 + 1) es fs h.2 k.2 (λ x. ⊎_elim
    (λ (first : e.0 ≡ x).
    let l : x < e.0 + 1 = omega arith in
    let m : x < f.0 + 1 = omega arith in
    byte_at-below (e.0 + 1) es x l h.2 ∙ sym (byte_at-below (f.0 + 1) fs x m k.2))
    (λ (later : e.0 ≡ x → ⊥). sym (at_other e.0 x (Some e.1) (byte_at es x) later) ∙ same x ∙ at_other f.0 x (Some f.1) (byte_at fs x) (λ q. later (at ∙ q)))
    (cases_eq e.0 x)) in
    let first : e ≡ f = ap (λ a. (a, e.1)) at ∙ ap (λ v. (f.0, v)) value in
    ap (λ p. p ∷ es) first ∙ ap (λ r. f ∷ r) rest)
    (λ (apart : (e.0 < f.0) ⊎ (f.0 < e.0)).
    ⊎_elim
    (λ (lt : e.0 < f.0). let absent : None ≡ Some e.1 = sym (byte_at-below f.0 (f ∷ fs) e.0 lt (≤_refl' f.0, k.1, k.2)) ∙ there in cc)
    (λ (gt : f.0 < e.0). let absent : None ≡ Some f.1 = sym (byte_at-below e.0 (e ∷ es) f.0 gt (≤_refl' e.0, h.1, h.2)) ∙ here in cc)
    apart)
    (cases_order e.0 f.0)
  where
    some_same : (x y : ℕ) → Some x ≡ Some y → x ≡ y
    some_same x y h = cc

    ≤_refl' : (n : ℕ) → n ≤ n
    ≤_refl' n = omega arith

covers_one : (a x : ℕ) → in_range a 1 x ≡ (a == x)
covers_one a x = grind (arith, nat_tests)

-- whether an address is covered
pub covered_at : (es : List (ℕ × ℕ)) (x : ℕ) → covered (stores_of es) x ≡ is_some (byte_at es x)
covered_at [] x = refl
covered_at (e ∷ es) x = ap (λ t. t || covered (stores_of es) x) (covers_one e.0 x) ∙ ap (λ t. (e.0 == x) || t) (covered_at es x) ∙ split (e.0 == x) e.1 (byte_at es x)
  where
    split : (t : Bool) (v : ℕ) (o : Option ℕ) → (t || is_some o) ≡ is_some (if t then Some v else o)
    split true v o = refl
    split false v o = refl

byte_of_one : (v a x : ℕ) → a ≡ x → v < 2 ^ 8 → byte_of v (x - a) ≡ v
byte_of_one v a x same h = sym (first_byte v a x same) ∙ mod-eq_of_lt h

-- the byte that a buffer leaves at an address
pub last_byte_at : (low b : ℕ) (es : List (ℕ × ℕ)) (x : ℕ) → Rising low es → last_byte b (stores_of es) x ≡ unwrap_or (byte_at es x) b
last_byte_at low b [] x h = refl
last_byte_at low b (e ∷ es) x h =
    ap (λ t. last_byte (if t then byte_of e.1 (x - e.0) else b) (stores_of es) x) (covers_one e.0 x)
    ∙ ⊎_elim
    (λ (same : e.0 ≡ x).
    let l : x < e.0 + 1 = omega arith in
    ap (λ c. last_byte c (stores_of es) x) (at_same e.0 x (byte_of e.1 (x - e.0)) b same ∙ byte_of_one e.1 e.0 x same h.1)
    ∙ last_byte_at (e.0 + 1) e.1 es x h.2
    ∙ ap (λ o. unwrap_or o e.1) (byte_at-below (e.0 + 1) es x l h.2)
    ∙ sym (ap (λ o. unwrap_or o b) (at_same e.0 x (Some e.1) (byte_at es x) same)))
    (λ (other : e.0 ≡ x → ⊥).
    ap (λ c. last_byte c (stores_of es) x) (at_other e.0 x (byte_of e.1 (x - e.0)) b other)
    ∙ last_byte_at (e.0 + 1) b es x h.2
    ∙ sym (ap (λ o. unwrap_or o b) (at_other e.0 x (Some e.1) (byte_at es x) other)))
    (cases_eq e.0 x)

or_swap : (p q : Bool) (v : ℕ) (o : Option ℕ) → is_some (if p then Some v else o) ≡ (is_some o || p)
or_swap true q v None = refl
or_swap true q v (Some y) = refl
or_swap false q v None = refl
or_swap false q v (Some y) = refl

unwrap_if : (p : Bool) (v b : ℕ) (o : Option ℕ) → unwrap_or (if p then Some v else o) b ≡ (if p then v else unwrap_or o b)
unwrap_if true v b o = refl
unwrap_if false v b o = refl

-- a byte that a buffer leaves, after one store more
pub last_byte-with_store : (b : ℕ) (es : List (ℕ × ℕ)) (s : Store) (x : ℕ) → Rising 0 es → last_byte b (stores_of (with_store es s)) x ≡ last_byte (last_byte b (stores_of es) x) (s ∷ []) x
last_byte-with_store b es s x h =
    last_byte_at 0 b (with_store es s) x (rising_with_store es s h)
    ∙ ap (λ o. unwrap_or o b) (byte_at-with_store es s x)
    ∙ unwrap_if (covers s x) (byte_put s x) b (byte_at es x)
    ∙ ap (λ c. if covers s x then byte_put s x else c) (sym (last_byte_at 0 b es x h))

-- what a buffer leaves, after one store more
pub after_with_store : (es : List (ℕ × ℕ)) (bs : List ℕ) (s : Store) → Rising 0 es → after bs (stores_of (with_store es s)) ≡ put (after bs (stores_of es)) s
after_with_store es bs s h =
    same_after bs (stores_of (with_store es s)) (stores_of es ++ s ∷ []) (λ b x l. last_byte-with_store b es s x h ∙ sym (last_byte-append b (stores_of es) (s ∷ []) x))
    ∙ after-append bs (stores_of es) (s ∷ [])

pub covered-with_store : (es : List (ℕ × ℕ)) (s : Store) (x : ℕ) → covered (stores_of (with_store es s)) x ≡ (covered (stores_of es) x || covers s x)
covered-with_store es s x =
    covered_at (with_store es s) x ∙ ap (λ o. is_some o) (byte_at-with_store es s x) ∙ or_swap (covers s x) false (byte_put s x) (byte_at es x)
    ∙ ap (λ t. t || covers s x) (sym (covered_at es x))

-- the bytes of a buffer leave what the stores that were put leave
pub last_byte-with_stores : (b : ℕ) (es : List (ℕ × ℕ)) (ss : List Store) (x : ℕ) → Rising 0 es → last_byte b (stores_of (with_stores es ss)) x ≡ last_byte (last_byte b (stores_of es) x) ss x
last_byte-with_stores b es [] x h = refl
last_byte-with_stores b es (s ∷ ss) x h =
    last_byte-with_stores b (with_store es s) ss x (rising_with_store es s h) ∙ ap (λ c. last_byte c ss x) (last_byte-with_store b es s x h)

pub after_with_stores : (es : List (ℕ × ℕ)) (bs : List ℕ) (ss : List Store) → Rising 0 es → after bs (stores_of (with_stores es ss)) ≡ after (after bs (stores_of es)) ss
after_with_stores es bs [] h = refl
after_with_stores es bs (s ∷ ss) h = after_with_stores (with_store es s) bs ss (rising_with_store es s h) ∙ ap (λ cs. after cs ss) (after_with_store es bs s h)

-- and cover the same addresses
pub covered-with_stores : (es : List (ℕ × ℕ)) (ss : List Store) (x : ℕ) → covered (stores_of (with_stores es ss)) x ≡ (covered (stores_of es) x || covered ss x)
covered-with_stores es [] x = or_none (covered (stores_of es) x)
  where
    or_none : (p : Bool) → p ≡ (p || false)
    or_none true = refl
    or_none false = refl
covered-with_stores es (s ∷ ss) x =
    covered-with_stores (with_store es s) ss x ∙ ap (λ t. t || covered ss x) (covered-with_store es s x) ∙ or_three (covered (stores_of es) x) (covers s x) (covered ss x)
  where
    or_three : (p q r : Bool) → ((p || q) || r) ≡ (p || (q || r))
    or_three true q r = refl
    or_three false q r = refl

-- a list of stores after another
pub with_stores-append : (es : List (ℕ × ℕ)) (ss ts : List Store) → with_stores es (ss ++ ts) ≡ with_stores (with_stores es ss) ts
with_stores-append es [] ts = refl
with_stores-append es (s ∷ ss) ts = with_stores-append (with_store es s) ss ts
