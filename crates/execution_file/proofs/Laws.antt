-- What is read of a part is spelled so, and what is spelled so is read.
use Rattle.std.proofs.Common.{◌≡◌, ℕ, zero, suc, ◌+◌, ◌*◌, ◌/◌, ◌%◌, ◌^◌, ◌<◌, Bool, true, false, cond, leb, eqb, ◌&&◌, List, [], ◌∷◌, ◌++◌, length, Option, Some, None, Result, Ok, Err, refl, sym, ap, subst, ◌∙◌, append_assoc, arith, length-append}
use Rattle.std.specs.Prelude.{codes}
use Rattle.std.specs.Fmt.{decimal}
use Rattle.std.proofs.lemmas.Bool.Decides.{nat_tests}
use Rattle.execution_file.specs.declared.cause.Cause.{Cause}
use Rattle.execution_file.specs.declared.cause.Cause.TheVariants.{Cut, Malformed, OutOfRange}
use Rattle.execution_file.specs.declared.cause.Refusal.{Refusal}
use Rattle.execution_file.specs.Numerals.{digits_at, after_digits, is_numeral, value_of}
use Rattle.execution_file.specs.Formats.{Format, ◌>>=◌, ◌&◌, refused, taken_word, begun_or, ended, no_number, number, hex_digit, is_hex, hex_value, taken_byte, byte, seen, HaveEach, spelled_each, taken_each, each, items_of, with_count, counted, HaveAll, spelled_list, taken_list, listed, HasGiven, spelled_after, taken_after, after, broken, taken_limited, limited}
use Rattle.execution_file.proofs.Numerals.{all_digits, digits_split, front_digits, front_after, numeral_is, decimal_numeral, decimal_digits, decimal_value}

pub bind_ok : {A B : Type 0} (r : Result A Refusal) (f : A → Result B Refusal) (y : B) → (r >>= f) ≡ Ok y → (x : A) × (r ≡ Ok x) × (f x ≡ Ok y)
bind_ok (Ok x) f y e = (x, refl, e)
bind_ok (Err d) f y e = absurd cc

-- a test that was passed
pub pass_ok : {A : Type 0} (b : Bool) (r s : Result A Refusal) (x : A) → cond b r s ≡ Ok x → (s ≡ Ok x → ⊥) → (b ≡ true) × (r ≡ Ok x)
pass_ok true r s x e n = (refl, e)
pass_ok false r s x e n = absurd (n e)

pub no_ok : {A : Type 0} (c : Cause) (bs : List ℕ) (x : A) → refused c bs ≡ Ok x → ⊥
no_ok c bs x e = cc

abbrev done : {A : Type 0} → A → Result A Refusal
done x = Ok x

pub ok_is : {A : Type 0} (x y : A) → done x ≡ done y → x ≡ y
ok_is x y e = cc

-- whatever follows
abbrev pub Any : List ℕ → Type 0
Any rest = Unit {0}

-- no digit follows
abbrev pub NoDigit : List ℕ → Type 0
NoDigit rest = digits_at rest ≡ []

-- a part whose reading and spelling belong together, where what follows it is as P says
pub record Lawful {A : Type 0} (P : List ℕ → Type 0) (f : Format A) : Type 0 where
  pub takes : (bs : List ℕ) (x : A × List ℕ) → f.taken bs ≡ Ok x → f.Has x.0 × (bs ≡ f.spelled x.0 ++ x.1)
  pub again : (x : A) (rest : List ℕ) → f.Has x → P rest → f.taken (f.spelled x ++ rest) ≡ Ok (x, rest)

then_parts : (a x b y c : List ℕ) → a ≡ x ++ b → b ≡ y ++ c → a ≡ (x ++ y) ++ c
then_parts a x b y c p q = p ∙ ap (λ (t : List ℕ). x ++ t) q ∙ sym (append_assoc x y c)

-- ---- words

word_step : (short wrong : Cause) (w : ℕ) (ws : List ℕ) (b : ℕ) (bs rest : List ℕ) (t : Bool) → eqb b w ≡ t → (taken_word short wrong ws bs ≡ Ok rest → bs ≡ ws ++ rest)
    → cond t (taken_word short wrong ws bs) (refused wrong (b ∷ bs)) ≡ Ok rest → b ∷ bs ≡ w ∷ ws ++ rest
word_step short wrong w ws b bs rest true same more e = let p : b ≡ w = grind (arith, nat_tests, same) in let q : bs ≡ ws ++ rest = more e in rw (p, q) refl
word_step short wrong w ws b bs rest false same more e = absurd (no_ok wrong (b ∷ bs) rest e)

pub word_takes : (short wrong : Cause) (ws bs rest : List ℕ) → taken_word short wrong ws bs ≡ Ok rest → bs ≡ ws ++ rest
word_takes short wrong [] bs rest e = ok_is bs rest e
word_takes short wrong (w ∷ ws) [] rest e = absurd (no_ok short [] rest e)
word_takes short wrong (w ∷ ws) (b ∷ bs) rest e = word_step short wrong w ws b bs rest (eqb b w) refl (word_takes short wrong ws bs rest) e

eqb_same : (n : ℕ) → eqb n n ≡ true
eqb_same n = grind (arith, nat_tests)

pub word_again : (short wrong : Cause) (ws rest : List ℕ) → taken_word short wrong ws (ws ++ rest) ≡ Ok rest
word_again short wrong [] rest = refl
word_again short wrong (w ∷ ws) rest = rw (eqb_same w) (word_again short wrong ws rest)

pub begun_lawful : {A : Type 0} {P : List ℕ → Type 0} (short wrong : Cause) (ws : List ℕ) (f : Format A) → Lawful P f → Lawful P (begun_or short wrong ws f)
begun_lawful short wrong ws f l = record {
  takes = λ bs x e.
      let a = bind_ok (taken_word short wrong ws bs) f.taken x e in
      let t = l.takes a.0 x a.2 in
      (t.0, then_parts bs ws a.0 (f.spelled x.0) x.1 (word_takes short wrong ws bs a.0 a.1) t.1);
  again = λ x rest h p. ap (begun_or short wrong ws f).taken (append_assoc ws (f.spelled x) rest) ∙ rw (word_again short wrong ws (f.spelled x ++ rest)) (l.again x rest h p);
}

pub ended_lawful : {A : Type 0} {P : List ℕ → Type 0} (f : Format A) (ws : List ℕ) → Lawful P f → ((rest : List ℕ) → P (ws ++ rest)) → Lawful Any (ended f ws)
ended_lawful f ws l close = record {
  takes = λ bs z e.
      let a = bind_ok (f.taken bs) (λ x. taken_word Cut Malformed ws x.1 >>= λ rest. Ok (x.0, rest)) z e in
      let x = a.0 in
      let b = bind_ok (taken_word Cut Malformed ws x.1) (λ rest. Ok (x.0, rest)) z a.2 in
      let t = l.takes bs x a.1 in
      subst (λ w. f.Has w.0 × (bs ≡ (f.spelled w.0 ++ ws) ++ w.1)) (ok_is (x.0, b.0) z b.2) (t.0, then_parts bs (f.spelled x.0) x.1 ws b.0 t.1 (word_takes Cut Malformed ws x.1 b.0 b.1));
  again = λ x rest h p. ap (ended f ws).taken (append_assoc (f.spelled x) ws rest) ∙ rw (l.again x (ws ++ rest) h (close rest), word_again Cut Malformed ws rest) refl;
}

-- ---- numbers

no_number_ok : (bs : List ℕ) (x : ℕ × List ℕ) → no_number bs ≡ Ok x → ⊥
no_number_ok [] x e = no_ok Cut [] x e
no_number_ok (b ∷ bs) x e = no_ok Malformed (b ∷ bs) x e

le_below : (n high : ℕ) → high < 2 ^ 64 → leb n high ≡ true → n < 2 ^ 64
le_below n high small e = grind (arith, nat_tests, small, e)

pub number_lawful : (high : ℕ) → high < 2 ^ 64 → Lawful NoDigit (number high)
number_lawful high small = record {
  takes = λ bs x e.
      let ds = digits_at bs in
      let a = pass_ok (is_numeral ds) (cond (leb (value_of ds) high) (Ok (value_of ds, after_digits bs)) (refused OutOfRange bs)) (no_number bs) x e (no_number_ok bs x) in
      let b = pass_ok (leb (value_of ds) high) (Ok (value_of ds, after_digits bs)) (refused OutOfRange bs) x a.1 (no_ok OutOfRange bs x) in
      let written : decimal (value_of ds) ≡ ds = numeral_is ds (all_digits bs) a.0 (le_below (value_of ds) high small b.0) in
      let there : bs ≡ decimal (value_of ds) ++ after_digits bs = digits_split bs ∙ ap (λ (t : List ℕ). t ++ after_digits bs) (sym written) in
      subst (λ (y : ℕ × List ℕ). (leb y.0 high ≡ true) × (bs ≡ decimal y.0 ++ y.1)) (ok_is (value_of ds, after_digits bs) x b.1) (b.0, there);
  again = λ n rest h p.
      let low : n < 2 ^ 64 = le_below n high small h in
      let front : digits_at (decimal n ++ rest) ≡ decimal n = front_digits (decimal n) rest (decimal_digits n low) p in
      let behind : after_digits (decimal n ++ rest) ≡ rest = front_after (decimal n) rest (decimal_digits n low) p in
      rw (front, behind, decimal_numeral n low, decimal_value n low, h) refl;
}

-- ---- bytes

both : (a b : Bool) → (a && b) ≡ true → (a ≡ true) × (b ≡ true)
both true true e = (refl, refl)
both true false e = absurd cc
both false b e = absurd cc

hex_small : (a : ℕ) → is_hex a ≡ true → hex_value a < 16
hex_small a e = grind (arith, nat_tests, e)

hex_back : (a : ℕ) → is_hex a ≡ true → hex_digit (hex_value a) ≡ a
hex_back a e = grind (arith, nat_tests, e)

digit_hex : (d : ℕ) → d < 16 → is_hex (hex_digit d) ≡ true
digit_hex d l = grind (arith, nat_tests, l)

digit_value : (d : ℕ) → d < 16 → hex_value (hex_digit d) ≡ d
digit_value d l = grind (arith, nat_tests, l)

byte_takes : (bs : List ℕ) (x : ℕ × List ℕ) → taken_byte bs ≡ Ok x → (x.0 < 256) × (bs ≡ byte.spelled x.0 ++ x.1)
byte_takes [] x e = absurd (no_ok Cut [] x e)
byte_takes (a ∷ []) x e = absurd (no_ok Cut (a ∷ []) x e)
byte_takes (a ∷ b ∷ bs) x e =
    let p = pass_ok (is_hex a && is_hex b) (Ok (16 * hex_value a + hex_value b, bs)) (refused Malformed (a ∷ b ∷ bs)) x e (no_ok Malformed (a ∷ b ∷ bs) x) in
    let t = both (is_hex a) (is_hex b) p.0 in
    let n = 16 * hex_value a + hex_value b in
    let low = hex_small a t.0 in
    let low_too = hex_small b t.1 in
    let high : n / 16 ≡ hex_value a = omega (arith, low, low_too) in
    let rest : n % 16 ≡ hex_value b = omega (arith, low, low_too) in
    let small : n < 256 = omega (arith, low, low_too) in
    let there : a ∷ b ∷ bs ≡ byte.spelled n ++ bs = rw (high, rest, hex_back a t.0, hex_back b t.1) refl in
    subst (λ (y : ℕ × List ℕ). (y.0 < 256) × (a ∷ b ∷ bs ≡ byte.spelled y.0 ++ y.1)) (ok_is (n, bs) x p.1) (small, there)

byte_again : (n : ℕ) (rest : List ℕ) → n < 256 → taken_byte (byte.spelled n ++ rest) ≡ Ok (n, rest)
byte_again n rest h =
    let low : n / 16 < 16 = omega (arith, h) in
    let low_too : n % 16 < 16 = omega arith in
    let whole : 16 * (n / 16) + n % 16 ≡ n = omega arith in
    rw (digit_hex (n / 16) low, digit_hex (n % 16) low_too, digit_value (n / 16) low, digit_value (n % 16) low_too, whole) refl

pub byte_lawful : Lawful Any byte
byte_lawful = record { takes = byte_takes; again = λ n rest h p. byte_again n rest h }

-- ---- what is built of parts

pub pair_lawful : {A B : Type 0} {P Q : List ℕ → Type 0} (f : Format A) (g : A → Format B) → Lawful P f → ((x : A) → Lawful Q (g x))
    → ((x : A) (y : B) (rest : List ℕ) → Q rest → P ((g x).spelled y ++ rest)) → Lawful Q (f & g)
pair_lawful f g lf lg follow = record {
  takes = λ bs z e.
      let a = bind_ok (f.taken bs) (λ x. (g x.0).taken x.1 >>= λ y. Ok ((x.0, y.0), y.1)) z e in
      let x = a.0 in
      let b = bind_ok ((g x.0).taken x.1) (λ y. Ok ((x.0, y.0), y.1)) z a.2 in
      let y = b.0 in
      let t = lf.takes bs x a.1 in
      let u = (lg x.0).takes x.1 y b.1 in
      subst (λ w. (f.Has w.0.0 × (g w.0.0).Has w.0.1) × (bs ≡ (f.spelled w.0.0 ++ (g w.0.0).spelled w.0.1) ++ w.1)) (ok_is ((x.0, y.0), y.1) z b.2) ((t.0, u.0), then_parts bs (f.spelled x.0) x.1 ((g x.0).spelled y.0) y.1 t.1 u.1);
  again = λ x rest h p.
      ap (f & g).taken (append_assoc (f.spelled x.0) ((g x.0).spelled x.1) rest) ∙ rw (lf.again x.0 ((g x.0).spelled x.1 ++ rest) h.0 (follow x.0 x.1 rest p), (lg x.0).again x.1 rest h.1 p) refl;
}

pub seen_lawful : {A B : Type 0} {P : List ℕ → Type 0} (to : A → B) (from : B → A) (f : Format A) → Lawful P f → ((x : A) → f.Has x → from (to x) ≡ x) → ((y : B) → to (from y) ≡ y) → Lawful P (seen to from f)
seen_lawful to from f lf there back = record {
  takes = λ bs z e.
      let a = bind_ok (f.taken bs) (λ x. Ok (to x.0, x.1)) z e in
      let x = a.0 in
      let t = lf.takes bs x a.1 in
      let same = there x.0 t.0 in
      subst (λ w. f.Has (from w.0) × (bs ≡ f.spelled (from w.0) ++ w.1)) (ok_is (to x.0, x.1) z a.2) (subst (λ v. f.Has v × (bs ≡ f.spelled v ++ x.1)) (sym same) t);
  again = λ y rest h p. rw (lf.again (from y) rest h p, back y) refl;
}

-- ---- so many parts

-- parts i, i + 1, .. of them
abbrev pub each_from : {A : Type 0} → ℕ → ℕ → (ℕ → Format A) → Format (List A)
each_from n i f = record { Has = HaveEach n i f; spelled = spelled_each i f; taken = taken_each n i f }

each_again_0 : {A : Type 0} (i : ℕ) (f : ℕ → Format A) (x : List A) (rest : List ℕ) → HaveEach 0 i f x → (each_from 0 i f).taken (spelled_each i f x ++ rest) ≡ Ok (x, rest)
unfolding taken_each
each_again_0 i f [] rest h = refl
each_again_0 i f (x ∷ xs) rest h = absurd h

each_again : {A : Type 0} (n i : ℕ) (f : ℕ → Format A) → Lawful Any (f i) → Lawful Any (each_from n (suc i) f) → (x : List A) (rest : List ℕ) → HaveEach (suc n) i f x → (each_from (suc n) i f).taken (spelled_each i f x ++ rest) ≡ Ok (x, rest)
unfolding taken_each
each_again n i f l m [] rest h = absurd h
each_again n i f l m (x ∷ xs) rest h =
    ap (each_from (suc n) i f).taken (append_assoc ((f i).spelled x) (spelled_each (suc i) f xs) rest) ∙ rw (l.again x (spelled_each (suc i) f xs ++ rest) h.0 tt, m.again xs rest h.1 tt) refl

pub each_lawful : {A : Type 0} (n i : ℕ) (f : ℕ → Format A) → ((k : ℕ) → Lawful Any (f k)) → Lawful Any (each_from n i f)
unfolding taken_each
each_lawful zero i f l = record {
  takes = λ bs x e. subst (λ y. HaveEach 0 i f y.0 × (bs ≡ spelled_each i f y.0 ++ y.1)) (ok_is ([], bs) x e) (tt, refl);
  again = λ x rest h p. each_again_0 i f x rest h;
}
each_lawful (suc n) i f l = record {
  takes = λ bs z e.
      let a = bind_ok ((f i).taken bs) (λ x. taken_each n (suc i) f x.1 >>= λ xs. Ok (x.0 ∷ xs.0, xs.1)) z e in
      let x = a.0 in
      let b = bind_ok (taken_each n (suc i) f x.1) (λ xs. Ok (x.0 ∷ xs.0, xs.1)) z a.2 in
      let xs = b.0 in
      let t = (l i).takes bs x a.1 in
      let u = (each_lawful n (suc i) f l).takes x.1 xs b.1 in
      subst (λ w. HaveEach (suc n) i f w.0 × (bs ≡ spelled_each i f w.0 ++ w.1)) (ok_is (x.0 ∷ xs.0, xs.1) z b.2) ((t.0, u.0), then_parts bs ((f i).spelled x.0) x.1 (spelled_each (suc i) f xs.0) xs.1 t.1 u.1);
  again = λ x rest h p. each_again n i f (l i) (each_lawful n (suc i) f l) x rest h;
}

have_as_many : {A : Type 0} (n i : ℕ) (f : ℕ → Format A) (xs : List A) → HaveEach n i f xs → length xs ≡ n
have_as_many zero i f [] h = refl
have_as_many zero i f (x ∷ xs) h = absurd h
have_as_many (suc n) i f [] h = absurd h
have_as_many (suc n) i f (x ∷ xs) h = ap suc (have_as_many n (suc i) f xs h.1)

pub counted_lawful : {A : Type 0} (high : ℕ) (f : ℕ → ℕ → Format A) → high < 2 ^ 64 → ((n k : ℕ) → Lawful Any (f n k)) → Lawful Any (counted high f)
counted_lawful high f small l = seen_lawful items_of with_count (ended (number high) (codes "\n") & λ n. each n (f n))
    (pair_lawful _ _ (ended_lawful (number high) (codes "\n") (number_lawful high small) (λ rest. refl)) (λ n. each_lawful n 0 (f n) (l n)) (λ x y rest p. tt))
    (λ x h. ap (λ (n : ℕ). (n, x.1)) (have_as_many x.0 0 (f x.0) x.1 h.1)) (λ y. refl)

-- ---- lists

bad_byte : {A : Type 0} (t : Bool) (b : ℕ) (bs : List ℕ) (x : List A × List ℕ) → cond t (Ok ([], bs)) (refused Malformed (b ∷ bs)) ≡ Ok x → (t ≡ true) × (([], bs) ≡ x)
bad_byte true b bs x e = (refl, ok_is ([], bs) x e)
bad_byte false b bs x e = absurd (no_ok Malformed (b ∷ bs) x e)

abbrev Found : {A : Type 0} → Format A → List ℕ → List A × List ℕ → Type 0
Found f bs x = HaveAll f x.0 × (bs ≡ spelled_list f x.0 ++ x.1)

list_step : {A : Type 0} {P : List ℕ → Type 0} (n : ℕ) (f : Format A) → Lawful P f → ((bs : List ℕ) (x : List A × List ℕ) → taken_list n f bs ≡ Ok x → Found f bs x)
    → (b : ℕ) (bs : List ℕ) (x : List A × List ℕ) (t u : Bool) → eqb b 32 ≡ t → eqb b 10 ≡ u
    → cond t (f.taken bs >>= λ x. taken_list n f x.1 >>= λ xs. Ok (x.0 ∷ xs.0, xs.1)) (cond u (Ok ([], bs)) (refused Malformed (b ∷ bs))) ≡ Ok x → Found f (b ∷ bs) x
list_step n f l more b bs z true u blank ends e =
    let a = bind_ok (f.taken bs) (λ x. taken_list n f x.1 >>= λ xs. Ok (x.0 ∷ xs.0, xs.1)) z e in
    let x = a.0 in
    let c = bind_ok (taken_list n f x.1) (λ xs. Ok (x.0 ∷ xs.0, xs.1)) z a.2 in
    let xs = c.0 in
    let t = l.takes bs x a.1 in
    let v = more x.1 xs c.1 in
    let p : b ≡ 32 = grind (arith, nat_tests, blank) in
    let whole : b ∷ bs ≡ spelled_list f (x.0 ∷ xs.0) ++ xs.1 = rw p (ap (λ (r : List ℕ). 32 ∷ r) (then_parts bs (f.spelled x.0) x.1 (spelled_list f xs.0) xs.1 t.1 v.1)) in
    subst (λ w. Found f (b ∷ bs) w) (ok_is (x.0 ∷ xs.0, xs.1) z c.2) ((t.0, v.0), whole)
list_step n f l more b bs z false u blank ends e =
    let p = bad_byte u b bs z e in
    let q : b ≡ 10 = grind (arith, nat_tests, ends, p.0) in
    subst (λ w. Found f (b ∷ bs) w) p.1 (tt, rw q refl)

list_takes : {A : Type 0} {P : List ℕ → Type 0} (n : ℕ) (f : Format A) → Lawful P f → (bs : List ℕ) (x : List A × List ℕ) → taken_list n f bs ≡ Ok x → Found f bs x
unfolding taken_list
list_takes zero f l bs x e = absurd (no_ok Cut bs x e)
list_takes (suc n) f l [] x e = absurd (no_ok Cut [] x e)
list_takes (suc n) f l (b ∷ bs) x e = list_step n f l (list_takes n f l) b bs x (eqb b 32) (eqb b 10) refl refl e

-- what stands after an item of a list
list_follows : {A : Type 0} (P : List ℕ → Type 0) (f : Format A) → ((rest : List ℕ) → P (32 ∷ rest)) → ((rest : List ℕ) → P (10 ∷ rest)) → (xs : List A) (rest : List ℕ) → P (spelled_list f xs ++ rest)
list_follows P f blank end [] rest = end rest
list_follows P f blank end (x ∷ xs) rest = blank ((f.spelled x ++ spelled_list f xs) ++ rest)

list_again : {A : Type 0} {P : List ℕ → Type 0} (f : Format A) → Lawful P f → ((rest : List ℕ) → P (32 ∷ rest)) → ((rest : List ℕ) → P (10 ∷ rest))
    → (n : ℕ) (xs : List A) (rest : List ℕ) → length xs < n → HaveAll f xs → taken_list n f (spelled_list f xs ++ rest) ≡ Ok (xs, rest)
unfolding taken_list
list_again f l blank end zero xs rest few h = absurd (omega (arith, few))
list_again f l blank end (suc n) [] rest few h = refl
list_again {A} {P} f l blank end (suc n) (x ∷ xs) rest few h =
    let again : f.taken (f.spelled x ++ (spelled_list f xs ++ rest)) ≡ Ok (x, spelled_list f xs ++ rest) = l.again x (spelled_list f xs ++ rest) h.0 (list_follows P f blank end xs rest) in
    let more : taken_list n f (spelled_list f xs ++ rest) ≡ Ok (xs, rest) = list_again f l blank end n xs rest (omega (arith, few)) h.1 in
    rw (append_assoc (f.spelled x) (spelled_list f xs) rest, again, more) refl

list_long : {A : Type 0} (f : Format A) (xs : List A) (rest : List ℕ) → length xs < length (spelled_list f xs ++ rest)
list_long f [] rest = omega arith
list_long f (x ∷ xs) rest = omega (arith, list_long f xs rest, length-append (f.spelled x ++ spelled_list f xs) rest, length-append (f.spelled x) (spelled_list f xs), length-append (spelled_list f xs) rest)

pub listed_lawful : {A : Type 0} {P : List ℕ → Type 0} (f : Format A) → Lawful P f → ((rest : List ℕ) → P (32 ∷ rest)) → ((rest : List ℕ) → P (10 ∷ rest)) → Lawful Any (listed f)
listed_lawful f l blank end = record {
  takes = λ bs x e. list_takes (length bs) f l bs x e;
  again = λ xs rest h p. list_again f l blank end (length (spelled_list f xs ++ rest)) xs rest (list_long f xs rest) h;
}

-- ---- what may be there

-- nothing is there after the byte, and what follows is as P says
pub record Without {A : Type 0} (c : ℕ) (f : Format A) (P : List ℕ → Type 0) (rest : List ℕ) : Type 0 where
  pub none : taken_after c f rest ≡ Ok (None, rest)
  pub other : P rest

after_step : {A : Type 0} {P : List ℕ → Type 0} (c : ℕ) (f : Format A) → Lawful P f → (b : ℕ) (bs : List ℕ) (z : Option A × List ℕ) (t : Bool) → eqb b c ≡ t
    → cond t (f.taken bs >>= λ x. Ok (Some x.0, x.1)) (Ok (None, b ∷ bs)) ≡ Ok z → HasGiven f z.0 × (b ∷ bs ≡ spelled_after c f z.0 ++ z.1)
after_step c f l b bs z true same e =
    let a = bind_ok (f.taken bs) (λ x. Ok (Some x.0, x.1)) z e in
    let t = l.takes bs a.0 a.1 in
    let p : b ≡ c = grind (arith, nat_tests, same) in
    subst (λ w. HasGiven f w.0 × (b ∷ bs ≡ spelled_after c f w.0 ++ w.1)) (ok_is (Some a.0.0, a.0.1) z a.2) (t.0, ap (λ (h : ℕ). h ∷ bs) p ∙ ap (λ (r : List ℕ). c ∷ r) t.1)
after_step c f l b bs z false same e = subst (λ w. HasGiven f w.0 × (b ∷ bs ≡ spelled_after c f w.0 ++ w.1)) (ok_is (None, b ∷ bs) z e) (tt, refl)

after_takes : {A : Type 0} {P : List ℕ → Type 0} (c : ℕ) (f : Format A) → Lawful P f → (bs : List ℕ) (z : Option A × List ℕ) → taken_after c f bs ≡ Ok z → HasGiven f z.0 × (bs ≡ spelled_after c f z.0 ++ z.1)
after_takes c f l [] z e = subst (λ w. HasGiven f w.0 × ([] ≡ spelled_after c f w.0 ++ w.1)) (ok_is (None, []) z e) (tt, refl)
after_takes c f l (b ∷ bs) z e = after_step c f l b bs z (eqb b c) refl e

after_again : {A : Type 0} {P : List ℕ → Type 0} (c : ℕ) (f : Format A) → Lawful P f → (x : Option A) (rest : List ℕ) → HasGiven f x → Without c f P rest → taken_after c f (spelled_after c f x ++ rest) ≡ Ok (x, rest)
after_again c f l None rest h p = p.none
after_again c f l (Some x) rest h p = rw (eqb_same c, l.again x rest h p.other) refl

pub after_lawful : {A : Type 0} {P : List ℕ → Type 0} (c : ℕ) (f : Format A) → Lawful P f → Lawful (Without c f P) (after c f)
after_lawful c f l = record { takes = after_takes c f l; again = after_again c f l }

pub limited_lawful : {A : Type 0} {P : List ℕ → Type 0} (test : A → Bool) (cause : Cause) (f : Format A) → Lawful P f → Lawful P (limited test cause f)
unfolding taken_limited
limited_lawful test cause f l = record {
  takes = λ bs z e.
      let a = bind_ok (f.taken bs) (λ x. cond (test x.0) (Ok x) (refused cause bs)) z e in
      let x = a.0 in
      let g = pass_ok (test x.0) (Ok x) (refused cause bs) z a.2 (no_ok cause bs z) in
      let t = l.takes bs x a.1 in
      subst (λ w. (f.Has w.0 × (test w.0 ≡ true)) × (bs ≡ f.spelled w.0 ++ w.1)) (ok_is x z g.1) ((t.0, g.0), t.1);
  again = λ x rest h p. rw (l.again x rest h.0 p, h.1) refl;
}

pub broken_lawful : {A : Type 0} (b : Bool) (f : Format A) → Lawful Any f → Lawful Any (broken b f)
broken_lawful true f l = ended_lawful f (codes "\n") l (λ rest. tt)
broken_lawful false f l = l
