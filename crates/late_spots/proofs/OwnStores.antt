-- Last own stores that a list has at their places.
use Rattle.std.proofs.Common.{◌≡◌, ℕ, zero, suc, ◌-◌, ◌<◌, ◌≤◌, ◌==◌, Bool, true, if◌then◌else◌, List, [], ◌∷◌, length, get_or, slice_index_or, Option, Some, option_map, sym, ap, ◌∙◌, subst, inl, inr, arith}
use Rattle.std.proofs.lemmas.Bool.{cases_Bool, eqb-true}
use Rattle.run_bounds.specs.declared.touched.TouchedByte.{TouchedByte}
use Rattle.run_bounds.specs.Touched.{known_at, untouched}
use Rattle.all_endings.specs.RunStates.{OwnByte}
use Rattle.all_endings.specs.StoreLists.{Stored, byte_in, has_byte, no_store}
use Rattle.hart_states.specs.States.{own_of}
use Rattle.run_bounds.specs.declared.touched.OwnByte.{OwnByte as KeptByte}
use Rattle.late_spots.specs.LateRuns.{IsListedAt, IsOwnListed}

pub before_listed : (m : List Stored) (x : ℕ) (o : OwnByte) → o.place ≡ 0 → IsListedAt m x o
before_listed m x o e = record { within = omega (arith, e); listed = λ pos. absurd (omega (arith, e, pos)) }

pub here_listed : (m : List Stored) (x : ℕ) (o : OwnByte) (s : Stored) → 0 < o.place → o.place ≤ length m → slice_index_or m (o.place - 1) no_store ≡ s → has_byte s x ≡ true →
    ((n : ℕ) → o.byte ≡ Some n → byte_in s x ≡ n) → IsListedAt m x o
here_listed m x o s some within at has byte = record {
  within = within;
  listed = λ pos. record {
    store = o.place - 1;
    place = omega (arith, some);
    has = ap (λ (t : Stored). has_byte t x) at ∙ has;
    byte = λ n e. ap (λ (t : Stored). byte_in t x) at ∙ byte n e;
  };
}

same_own : (p o : OwnByte) (q : Option OwnByte) → q ≡ Some p → q ≡ Some o → p ≡ o
same_own p o q e f = cc

pub own_listed : (m : List Stored) (x : ℕ) (d : TouchedByte) (own : KeptByte) → d.own ≡ Some own → IsListedAt m x (own_of own) → IsOwnListed m x d
own_listed m x d own is here o e = subst (λ (p : OwnByte). IsListedAt m x p) (same_own (own_of own) o (option_map own_of d.own) (ap (λ (q : Option KeptByte). option_map own_of q) is) e) here

-- what is so of nothing, and of each record, is so of what is kept of a byte
pub kept_each : (F : ℕ → TouchedByte → Type 0) (bs : List TouchedByte) → ((x : ℕ) → F x (untouched x)) →
    ((k : ℕ) (d : TouchedByte) → k < length bs → F (get_or bs k d).address (get_or bs k d)) → (x : ℕ) → F x (known_at bs x)
kept_each F [] none each x = none x
kept_each F (b ∷ bs) none each x = elim (cases_Bool (b.address == x)) [
  | inl here ↦ subst (λ (c : Bool). F x (if c then b else known_at bs x)) (sym here) (subst (λ (y : ℕ). F y b) (eqb-true b.address x here) (each zero b (omega arith)))
  | inr other ↦ subst (λ (c : Bool). F x (if c then b else known_at bs x)) (sym other) (kept_each F bs none (λ k d l. each (suc k) d (omega (arith, l))) x)
]
