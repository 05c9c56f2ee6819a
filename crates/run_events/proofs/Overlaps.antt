-- Whether a range has one of the bytes of an access.
use Rattle.std.proofs.Common.{◌≡◌, ℕ, zero, suc, ◌+◌, ◌<◌, ◌≤◌, ◌||◌, Bool, true, false, List, [], ◌∷◌, refl, sym, ap, ◌∙◌, arith, inl, inr}
use Rattle.std.specs.Prelude.{nat_lt}
use Rattle.std.specs.List.{list_any}
use Rattle.std.proofs.lemmas.Bool.{cases_lt}
use Rattle.std.proofs.lemmas.Bool.Decides.{nat_tests}
use Rattle.pages.specs.declared.access.Range.{Range}
use Rattle.pages.specs.Memory.{in_range}
use Rattle.round_schedule.specs.Held.{any_byte}
use Rattle.run_events.specs.Hits.{is_watched}

-- ---- ranges one by one

regroup : (a b c d : Bool) → ((a || b) || (c || d)) ≡ ((a || c) || (b || d))
regroup true b c d = refl
regroup false true true d = refl
regroup false true false d = refl
regroup false false c d = refl

either : (f g : ℕ → Bool) (a n : ℕ) → any_byte (λ x. f x || g x) a n ≡ (any_byte f a n || any_byte g a n)
either f g a zero = refl
either f g a (suc n) = ap (λ (b : Bool). (f a || g a) || b) (either f g (a + 1) n) ∙ regroup (f a) (g a) (any_byte f (a + 1) n) (any_byte g (a + 1) n)

none : (a n : ℕ) → any_byte (λ x. false) a n ≡ false
none a zero = refl
none a (suc n) = none (a + 1) n

abbrev pub has_byte : ℕ → ℕ → Range → Bool
has_byte a n r = any_byte (in_range r.start r.len) a n

-- a byte lies in some range where some range has a byte
pub by_range : (rs : List Range) (a n : ℕ) → list_any (has_byte a n) rs ≡ any_byte (is_watched rs) a n
by_range [] a n = sym (none a n)
by_range (r ∷ rs) a n = ap (λ (b : Bool). has_byte a n r || b) (by_range rs a n) ∙ sym (either (in_range r.start r.len) (is_watched rs) a n)

-- ---- the bytes of one range

left : (b c : Bool) → b ≡ true → (b || c) ≡ true
left b c e = rw e refl

right : (b c : Bool) → c ≡ true → (b || c) ≡ true
right true c e = refl
right false c e = e

here : (f : ℕ → Bool) (a n x : ℕ) → a ≤ x → x < a + n → f x ≡ true → any_byte f a n ≡ true
here f a zero x lo hi is = absurd (omega (arith, lo, hi))
here f a (suc n) x lo hi is = elim (cases_lt a x) [
  | inl lt ↦ right (f a) (any_byte f (a + 1) n) (here f (a + 1) n x (omega (arith, lt)) (omega (arith, hi)) is)
  | inr le ↦ let same : a ≡ x = omega (arith, le, lo) in left (f a) (any_byte f (a + 1) n) (ap f same ∙ is)
]

nowhere : (f : ℕ → Bool) (a n : ℕ) → ((x : ℕ) → a ≤ x → x < a + n → f x ≡ false) → any_byte f a n ≡ false
nowhere f a zero out = refl
nowhere f a (suc n) out = let first : f a ≡ false = out a (omega arith) (omega arith) in rw first (nowhere f (a + 1) n (λ x lo hi. out x (omega (arith, lo)) (omega (arith, hi))))

-- one of the range's bytes is there where each begins before the other one ends
both_begin : (start len a n : ℕ) → a < start + len → start < a + n → 0 < len → 0 < n → any_byte (in_range start len) a n ≡ true
both_begin start len a n low high some more = elim (cases_lt start a) [
  | inl lt ↦ here (in_range start len) a n a (omega arith) (omega (arith, more)) (grind (arith, nat_tests, lt, low))
  | inr le ↦ here (in_range start len) a n start (omega (arith, le)) (omega (arith, high)) (grind (arith, nat_tests, some))
]

after : (start len a n : ℕ) → start + len ≤ a → any_byte (in_range start len) a n ≡ false
after start len a n behind = nowhere (in_range start len) a n (λ x lo hi. grind (arith, nat_tests, lo, hi, behind))

before : (start len a n : ℕ) → a + n ≤ start → any_byte (in_range start len) a n ≡ false
before start len a n ahead = nowhere (in_range start len) a n (λ x lo hi. grind (arith, nat_tests, lo, hi, ahead))

pub no_byte : (start len a n : ℕ) → n ≡ 0 → false ≡ any_byte (in_range start len) a n
no_byte start len a n e = rw e refl

pub no_range : (start len a n : ℕ) → len ≡ 0 → false ≡ any_byte (in_range start len) a n
no_range start len a n e = sym (nowhere (in_range start len) a n (λ x lo hi. grind (arith, nat_tests, e)))

is_lt : (a b : ℕ) → a < b → nat_lt a b ≡ true
is_lt a b lt = grind (arith, nat_tests, lt)

is_not : (a b : ℕ) → b ≤ a → nat_lt a b ≡ false
is_not a b le = grind (arith, nat_tests, le)

pub if_before : (start len a n s f : ℕ) → s ≡ start → f ≡ a → f < s + len → 0 < len → 0 < n → nat_lt s (f + n) ≡ any_byte (in_range start len) a n
if_before start len a n s f d e low some more = elim (cases_lt s (f + n)) [
  | inl lt ↦ is_lt s (f + n) lt ∙ sym (both_begin start len a n (omega (arith, d, e, low)) (omega (arith, d, e, lt)) some more)
  | inr le ↦ is_not s (f + n) le ∙ sym (before start len a n (omega (arith, d, e, le)))
]

pub if_after : (start len a n s f : ℕ) → s ≡ start → f ≡ a → s + len ≤ f → nat_lt f (s + len) ≡ any_byte (in_range start len) a n
if_after start len a n s f d e le = is_not f (s + len) le ∙ sym (after start len a n (omega (arith, d, e, le)))
