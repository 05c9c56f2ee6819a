-- The tests on ranges against the definitions that go address by address.
use Rattle.std.proofs.Common.{◌≡◌, ℕ, zero, suc, ◌+◌, ◌-◌, ◌<◌, ◌≤◌, List, [], ◌∷◌, length, refl, sym, ap, ◌∙◌, arith, Bool, true, false, ◌&&◌, ◌||◌, nat_lt, nat_le, if◌then◌else◌, All, get_or, subst, ◌⊎◌, ⊎_elim, inl, inr}
use Rattle.std.proofs.lemmas.Bool.Decides.{nat_tests}
use Rattle.std.proofs.lemmas.List.Elements.{All-head, All-tail}
use Rattle.std.proofs.lemmas.Bool.{cases_lt}
use Rattle.std.proofs.lemmas.List.{get_or_default}
use Rattle.std.specs.List.{list_any}
use Rattle.pages.specs.declared.access.Range.{Range}
use Rattle.pages.specs.Code.{has_address, has_some_address, has_word}
use Rattle.pages.specs.PagesHold.{LiesWithin}
use Rattle.pages.specs.declared.access.Width.{Width}
use Rattle.pages.specs.declared.access.Width.TheVariants.{W1, W2, W4, W8}
use Rattle.pages.specs.Memory.{width_bytes, in_range, is_code, any_code, all_code}

same_address : (a s n : ℕ) → (nat_le s a && nat_lt (a - s) n) ≡ (nat_le s a && nat_lt a (s + n))
same_address a s n = grind (arith, nat_tests)

pub is_code_by_range : (rs : List Range) (a : ℕ) → list_any (has_address a) rs ≡ is_code rs a
is_code_by_range [] a = refl
is_code_by_range (r ∷ rs) a = rw (same_address a r.start r.len, is_code_by_range rs a) refl

one_address : (a s n : ℕ) → (if nat_lt a s then (nat_lt (s - a) 1 && nat_lt 0 n) else nat_lt (a - s) n) ≡ in_range s n a
one_address a s n = grind (arith, nat_tests)

more_addresses : (a m s n : ℕ) → 0 < m → (if nat_lt a s then (nat_lt (s - a) (suc m) && nat_lt 0 n) else nat_lt (a - s) n) ≡ (in_range s n a || (if nat_lt (a + 1) s then (nat_lt (s - (a + 1)) m && nat_lt 0 n) else nat_lt (a + 1 - s) n))
more_addresses a m s n h = grind (arith, nat_tests)

or_apart : (p q r s : Bool) → ((p || q) || (r || s)) ≡ ((p || r) || (q || s))
or_apart true q r s = refl
or_apart false true true s = refl
or_apart false true false s = refl
or_apart false false r s = refl

or_false : (p : Bool) → (p || false) ≡ p
or_false true = refl
or_false false = refl

pub any_code_by_range : (n : ℕ) (rs : List Range) (a : ℕ) → list_any (has_some_address a (suc n)) rs ≡ any_code rs a (suc n)
any_code_by_range zero [] a = refl
any_code_by_range zero (r ∷ rs) a =
    rw (one_address a r.start r.len, any_code_by_range zero rs a, or_false (is_code rs a), or_false (in_range r.start r.len a || is_code rs a)) refl
any_code_by_range (suc n) [] a = any_code_by_range n [] (a + 1)
any_code_by_range (suc n) (r ∷ rs) a =
    let here = more_addresses a (suc n) r.start r.len (omega arith) in
    let rest = any_code_by_range (suc n) rs a in
    let below = any_code_by_range n (r ∷ rs) (a + 1) in
    let below' = any_code_by_range n rs (a + 1) in
    ap (λ b. b || list_any (has_some_address a (suc (suc n))) rs) here
    ∙ ap (λ b. (in_range r.start r.len a || has_some_address (a + 1) (suc n) r) || b) rest
    ∙ or_apart (in_range r.start r.len a) (has_some_address (a + 1) (suc n) r) (is_code rs a) (any_code rs (a + 1) (suc n))
    ∙ ap (λ b. (in_range r.start r.len a || is_code rs a) || (has_some_address (a + 1) (suc n) r || b)) (sym below')
    ∙ ap (λ b. (in_range r.start r.len a || is_code rs a) || b) below

word_tells : (a k s n : ℕ) → k < 4 → (nat_le s a && (nat_le 4 n && nat_le (a - s) (n - 4))) ≡ true → in_range s n (a + k) ≡ true
word_tells a k s n l h = grind (arith, nat_tests)

or_true : (p q : Bool) → q ≡ true → (p || q) ≡ true
or_true true q h = refl
or_true false q h = h

word_at : (rs : List Range) (a k : ℕ) → k < 4 → list_any (has_word a) rs ≡ true → is_code rs (a + k) ≡ true
word_at [] a k l h = h
word_at (r ∷ rs) a k l h =
    elim (has_word a r) as (λ b. has_word a r ≡ b → (b || list_any (has_word a) rs) ≡ true → is_code (r ∷ rs) (a + k) ≡ true) [
      | true ↦ λ e _. rw (word_tells a k r.start r.len l e) refl
      | false ↦ λ _ e. or_true (in_range r.start r.len (a + k)) (is_code rs (a + k)) (word_at rs a k l e)
    ] refl h

-- a word that one range has is code
pub all_code_by_word : (rs : List Range) (a : ℕ) → list_any (has_word a) rs ≡ true → all_code rs a 4 ≡ true
all_code_by_word rs a h =
    let b0 : is_code rs a ≡ true = ap (is_code rs) (omega arith) ∙ word_at rs a 0 (omega arith) h in
    let b1 : is_code rs (a + 1) ≡ true = word_at rs a 1 (omega arith) h in
    let b2 : is_code rs (a + 1 + 1) ≡ true = ap (is_code rs) (omega arith) ∙ word_at rs a 2 (omega arith) h in
    let b3 : is_code rs (a + 1 + 1 + 1) ≡ true = ap (is_code rs) (omega arith) ∙ word_at rs a 3 (omega arith) h in
    rw (b0, b1, b2, b3) refl

outside_one : (from to a s n : ℕ) → from ≤ s → s + n ≤ to → (a < from) ⊎ (to ≤ a) → in_range s n a ≡ false
outside_one from to a s n low high out = grind (arith, nat_tests)

-- outside of the bounds there is no code
outside_code : (rs : List Range) (from to a : ℕ) → All (λ (r : Range). LiesWithin from to r) rs → (a < from) ⊎ (to ≤ a) → is_code rs a ≡ false
outside_code [] from to a w out = refl
outside_code (r ∷ rs) from to a w out =
    let here = All-head (λ (r : Range). LiesWithin from to r) r rs w in
    let rest = All-tail (λ (r : Range). LiesWithin from to r) r rs w in
    rw (outside_one from to a r.start r.len here.0 here.1 out, outside_code rs from to a rest out) refl

pub no_code_outside : (n : ℕ) (rs : List Range) (from to a : ℕ) → All (λ (r : Range). LiesWithin from to r) rs → (a + n ≤ from) ⊎ (to ≤ a) → any_code rs a n ≡ false
no_code_outside zero rs from to a w out = refl
no_code_outside (suc n) rs from to a w out =
    let here : (a < from) ⊎ (to ≤ a) = ⊎_elim (λ h. inl (omega arith)) (λ h. inr h) out in
    let next : (a + 1 + n ≤ from) ⊎ (to ≤ a + 1) = ⊎_elim (λ h. inl (omega arith)) (λ h. inr (omega arith)) out in
    rw (outside_code rs from to a w here, no_code_outside n rs from to (a + 1) w next) refl

pub any_code_by_width : (w : Width) (rs : List Range) (a : ℕ) → list_any (has_some_address a (width_bytes w)) rs ≡ any_code rs a (width_bytes w)
any_code_by_width W1 rs a = any_code_by_range 0 rs a
any_code_by_width W2 rs a = any_code_by_range 1 rs a
any_code_by_width W4 rs a = any_code_by_range 3 rs a
any_code_by_width W8 rs a = any_code_by_range 7 rs a

-- the bounds so far, widened for one range more
pub bounds_more : (rs : List Range) (i s e s' e' : ℕ) (z : Range) → i < length rs → s' ≤ s → e ≤ e' → LiesWithin s' e' (get_or rs i z) → ((k : ℕ) (d : Range) → k < i → LiesWithin s e (get_or rs k d)) → (k : ℕ) (d : Range) → k < i + 1 → LiesWithin s' e' (get_or rs k d)
bounds_more rs i s e s' e' z l low high here below k d h =
    ⊎_elim
    (λ lt. let b = below k d lt in (omega (arith, b.0), omega (arith, b.1)))
    (λ ge.
    let same : i ≡ k = omega arith in
    subst (λ n. LiesWithin s' e' (get_or rs n d)) same (subst (λ (r : Range). LiesWithin s' e' r) (get_or_default rs i z d l) here))
    (cases_lt k i)
