-- Choices of ends, hart by hart.
use Rattle.std.proofs.Common.{◌≡◌, ℕ, zero, suc, ◌<◌, List, [], ◌∷◌, ◌++◌, length, get_or, Contains, refl, ap, arith}
use Rattle.all_endings.specs.Walking.{AreEndsOf, HartEnding}

none_of : AreEndsOf [] []
none_of = record { as_many = refl; each = λ h d l. absurd (omega (arith, l)) }

one_more : (w : List HartEnding) (ws : List (List HartEnding)) (e : HartEnding) (es : List HartEnding) → Contains w e → AreEndsOf ws es → AreEndsOf (w ∷ ws) (e ∷ es)
one_more w ws e es here rest = record { as_many = ap (λ (n : ℕ). suc n) rest.as_many; each = at }
  where
    at : (h : ℕ) (d : HartEnding) → h < length (w ∷ ws) → Contains (get_or (w ∷ ws) h []) (get_or (e ∷ es) h d)
    at zero d l = here
    at (suc h) d l = rest.each h d (omega (arith, l))

one_less : (w : List HartEnding) (ws : List (List HartEnding)) (e : HartEnding) (es : List HartEnding) → AreEndsOf (w ∷ ws) (e ∷ es) → Contains w e × AreEndsOf ws es
one_less w ws e es all = (
  all.each zero e (omega arith),
  record { as_many = (let l : suc (length es) ≡ suc (length ws) = all.as_many in omega (arith, l)); each = λ h d l. all.each (suc h) d (omega (arith, l)) },
)

-- ends of one hart more are ends of those before, and one of that hart's
pub split_ends : (ws : List (List HartEnding)) (w : List HartEnding) (es : List HartEnding) → AreEndsOf (ws ++ w ∷ []) es →
    (front : List HartEnding) × (e : HartEnding) × AreEndsOf ws front × Contains w e × (front ++ e ∷ [] ≡ es)
split_ends [] w [] all = absurd (let l : 0 ≡ 1 = all.as_many in omega (arith, l))
split_ends [] w (e ∷ []) all = ([], e, none_of, (one_less w [] e [] all).0, refl)
split_ends [] w (e ∷ f ∷ es) all = absurd (let l : suc (suc (length es)) ≡ 1 = all.as_many in omega (arith, l))
split_ends (v ∷ ws) w [] all = absurd (let l : 0 ≡ suc (length (ws ++ w ∷ [])) = all.as_many in omega (arith, l))
split_ends (v ∷ ws) w (e ∷ es) all =
    let parts = one_less v (ws ++ w ∷ []) e es all in
    let r = split_ends ws w es parts.1 in
    (e ∷ r.0, r.1, one_more v ws e r.0 parts.0 r.2, r.3, ap (λ (fs : List HartEnding). e ∷ fs) r.4)
