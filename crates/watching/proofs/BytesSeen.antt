-- Bytes of numbers, and bytes that are looked for from the end on.
use Rattle.std.proofs.Common.{◌≡◌, ℕ, suc, ◌-◌, ◌*◌, ◌<◌, ◌≤◌, ◌%◌, ◌^◌, ◌&&◌, Bool, cond, List, [], ◌∷◌, ◌++◌, length, take, get_or, refl, sym, ◌∙◌, ap, subst, inl, inr, arith}
use Rattle.std.proofs.lemmas.Bool.{cases_lt}
use Rattle.std.proofs.lemmas.Nat.{pow_below}
use Rattle.std.proofs.Math.Nat.{div-eq_of_lt}
use Rattle.std.proofs.Math.Seq.{take-suc}
use Rattle.pages.specs.Memory.{byte_of}
use Rattle.round_schedule.specs.declared.event.Event.{Event}
use Rattle.round_schedule.specs.Accesses.{byte_written, writes}
use Rattle.watching.specs.Events.{seen_by, sees}

-- past its eight bytes a number has zeros
pub past_byte : (n k : ℕ) → n < 2 ^ 64 → 8 ≤ k → byte_of n k ≡ 0
past_byte n k h l = ap (λ q. q % 2 ^ 8) (div-eq_of_lt large)
  where
    large : n < 2 ^ (8 * k)
    large = elim (cases_lt 64 (8 * k)) [
      | inl a ↦ let p = pow_below 64 (8 * k) a in omega (arith, p, h)
      | inr b ↦ let e : 8 * k ≡ 64 = omega (arith, b, l) in subst (λ j. n < 2 ^ j) (sym e) h
    ]

pub seen_push : (e : Event) (x b : ℕ) (fs : List Event) (f : Event) →
    seen_by e x b (fs ++ f ∷ []) ≡ cond (sees e f && writes f.access x) (byte_written f.access x) (seen_by e x b fs)
seen_push e x b [] f = refl
seen_push e x b (g ∷ fs) f = seen_push e x (cond (sees e g && writes g.access x) (byte_written g.access x) b) fs f

-- at a step of a loop that goes down
pub seen_down : (e : Event) (x b : ℕ) (fs : List Event) (n : ℕ) (d : Event) (t : Bool) → 0 < n → n ≤ length fs → (sees e (get_or fs (n - 1) d) && writes (get_or fs (n - 1) d).access x) ≡ t →
    seen_by e x b (take n fs) ≡ cond t (byte_written (get_or fs (n - 1) d).access x) (seen_by e x b (take (n - 1) fs))
seen_down e x b fs n d t some le h =
    let one : n ≡ suc (n - 1) = omega (arith, some) in
    ap (λ (k : ℕ). seen_by e x b (take k fs)) one
    ∙ ap (seen_by e x b) (take-suc fs (n - 1) d (omega (arith, some, le)))
    ∙ seen_push e x b (take (n - 1) fs) (get_or fs (n - 1) d)
    ∙ ap (λ (c : Bool). cond c (byte_written (get_or fs (n - 1) d).access x) (seen_by e x b (take (n - 1) fs))) h
