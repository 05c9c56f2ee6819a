-- What is kept of bytes, byte by byte.
use Rattle.std.proofs.Common.{◌≡◌, ℕ, zero, suc, ◌<◌, ◌≤◌, ◌==◌, Bool, true, false, if◌then◌else◌, List, [], ◌∷◌, length, get_or, Option, None, Some, option_map, refl, sym, ap, ◌∙◌, subst, inl, inr, ◌+◌, arith}
use Rattle.std.proofs.lemmas.Bool.{cases_lt, eqb-true}
use Rattle.std.proofs.lemmas.List.{get_or_default, get_or_read}
use Rattle.run_bounds.specs.declared.touched.TouchedByte.{TouchedByte}
use Rattle.run_bounds.specs.declared.touched.OwnByte.{OwnByte as KeptByte}
use Rattle.run_bounds.specs.Touched.{known_at, untouched}
use Rattle.hart_states.specs.States.{own_of}
use Rattle.private_bytes.specs.Ahead.{OwnAhead, ahead-both, ahead-none}
use Rattle.run_places.specs.Bounds.{AreBytesAhead, IsByteAhead, IsStoredAhead}

untouched_self : (x : ℕ) → IsByteAhead (untouched x) (untouched x)
untouched_self x = record { address = refl; touched = omega arith; seen = omega arith; own = ahead-none }

-- a byte that was touched, but not stored to
over_untouched : (x : ℕ) (b : TouchedByte) → b.address ≡ x → b.own ≡ None → IsByteAhead (untouched x) b
over_untouched x b at none = record {
  address = sym at;
  touched = omega arith;
  seen = omega arith;
  own = subst (λ (o : Option KeptByte). OwnAhead None (option_map own_of o)) (sym none) ahead-none;
}

chosen_over : (c : Bool) (x : ℕ) (b r : TouchedByte) → (c ≡ true → IsByteAhead (untouched x) b) → IsByteAhead (untouched x) r → IsByteAhead (untouched x) (if c then b else r)
chosen_over true x b r here rest = here refl
chosen_over false x b r here rest = rest

chosen_both : (c : Bool) (a b r s : TouchedByte) → IsByteAhead a b → IsByteAhead r s → IsByteAhead (if c then a else r) (if c then b else s)
chosen_both true a b r s here rest = here
chosen_both false a b r s here rest = rest

same_test : (a b x : ℕ) → a ≡ b → (a == x) ≡ (b == x)
same_test a b x e = ap (λ (y : ℕ). y == x) e

pub bytes_before : (xs bs : List TouchedByte) → length xs ≤ length bs →
    ((k : ℕ) (d e : TouchedByte) → k < length xs → IsByteAhead (get_or xs k d) (get_or bs k e)) →
    ((k : ℕ) (d : TouchedByte) → length xs ≤ k → k < length bs → (get_or bs k d).own ≡ None) → AreBytesAhead xs bs
bytes_before [] [] l both rest x = untouched_self x
bytes_before [] (b ∷ bs) l both rest x =
    chosen_over (b.address == x) x b (known_at bs x) (λ e. over_untouched x b (eqb-true b.address x e) (rest zero b (omega arith) (omega arith)))
    (bytes_before [] bs (omega arith) (λ k d e m. absurd (omega (arith, m))) (λ k d m n. rest (suc k) d (omega arith) (omega (arith, n))) x)
bytes_before (a ∷ xs) [] l both rest x = absurd (omega (arith, l))
bytes_before (a ∷ xs) (b ∷ bs) l both rest x =
    let first : IsByteAhead a b = both zero a b (omega arith) in
    let more = bytes_before xs bs (omega (arith, l)) (λ k d e m. both (suc k) d e (omega (arith, m))) (λ k d m n. rest (suc k) d (omega (arith, m)) (omega (arith, n))) x in
    subst (λ (c : Bool). IsByteAhead (if a.address == x then a else known_at xs x) (if c then b else known_at bs x)) (same_test a.address b.address x first.address)
    (chosen_both (a.address == x) a b (known_at xs x) (known_at bs x) first more)

-- one pair of bytes more
pub pair_more : (a b : List TouchedByte) (i : ℕ) (x y : TouchedByte) → i < length a → i < length b → x ≡ get_or a i x → y ≡ get_or b i y → IsByteAhead x y →
    ((k : ℕ) (d e : TouchedByte) → k < i → IsByteAhead (get_or a k d) (get_or b k e)) →
    (k : ℕ) (d e : TouchedByte) → k < i + 1 → IsByteAhead (get_or a k d) (get_or b k e)
pair_more a b i x y l m at bt here before k d e n = elim (cases_lt k i) [
  | inl small ↦ before k d e small
  | inr large ↦
      let same : i ≡ k = omega (arith, n, large) in
      let left : x ≡ get_or a k d = get_or_read a i x l at d ∙ ap (λ (j : ℕ). get_or a j d) same in
      let right : y ≡ get_or b k e = get_or_read b i y m bt e ∙ ap (λ (j : ℕ). get_or b j e) same in
      subst (λ (z : TouchedByte). IsByteAhead (get_or a k d) z) right (subst (λ (z : TouchedByte). IsByteAhead z y) left here)
]

pub own_of_none : (a b : Option KeptByte) → a ≡ None → b ≡ None → OwnAhead (option_map own_of a) (option_map own_of b)
own_of_none a b e f =
    subst (λ (o : Option KeptByte). OwnAhead (option_map own_of o) (option_map own_of b)) (sym e)
    (subst (λ (o : Option KeptByte). OwnAhead None (option_map own_of o)) (sym f) ahead-none)

pub own_of_both : (a b : Option KeptByte) (o p : KeptByte) → a ≡ Some o → b ≡ Some p → IsStoredAhead o p → OwnAhead (option_map own_of a) (option_map own_of b)
own_of_both a b o p e f same =
    subst (λ (u : Option KeptByte). OwnAhead (option_map own_of u) (option_map own_of b)) (sym e)
    (subst (λ (u : Option KeptByte). OwnAhead (Some (own_of o)) (option_map own_of u)) (sym f)
    (ahead-both (own_of o) (own_of p) same.place same.byte same.atomic same.needs))

pub pair_found : (a b : List TouchedByte) (i : ℕ) (x y : TouchedByte) → i < length a → i < length b → IsByteAhead (get_or a i x) (get_or b i y) →
    ((k : ℕ) (d e : TouchedByte) → k < i → IsByteAhead (get_or a k d) (get_or b k e)) →
    (k : ℕ) (d e : TouchedByte) → k < i + 1 → IsByteAhead (get_or a k d) (get_or b k e)
pair_found a b i x y l m here before =
    pair_more a b i (get_or a i x) (get_or b i y) l m (get_or_default a i x (get_or a i x) l) (get_or_default b i y (get_or b i y) m) here before
