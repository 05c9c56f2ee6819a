-- RVWMO from its parts.
use Rattle.std.proofs.Common.{◌≡◌, ℕ, ◌↔◌, Bool, List, Option, Some, None, MatchOption, IsTrue, subst}
use Rattle.round_schedule.specs.declared.event.Event.{Event}
use Rattle.memory_order.specs.Orders.{ListsOperations, order_position}
use Rattle.memory_order.specs.Rvwmo.{AtomicityAxiom, LoadValueAxiom, MeetsRvwmo, PreservedOrder}

pub at_none : {A : Type 0} (o : Option A) (P : Type 0) (Q : A → Type 0) → o ≡ None → MatchOption o P Q → P
at_none o P Q e h = subst (λ p. MatchOption p P Q) e h

pub at_some : {A : Type 0} (o : Option A) (a : A) (P : Type 0) (Q : A → Type 0) → o ≡ Some a → MatchOption o P Q → Q a
at_some o a P Q e h = subst (λ p. MatchOption p P Q) e h

pub meets_whole : (t u : List Event) (opening : ℕ → ℕ) (g k : List ℕ) (b : Bool) → t ≡ u → g ≡ k → ListsOperations t g →
    (IsTrue b ↔ (PreservedOrder t (order_position g) × LoadValueAxiom t opening (order_position g) × AtomicityAxiom t (order_position g))) → IsTrue b ↔ MeetsRvwmo u opening k
meets_whole t u opening g k b e f lists h =
    subst (λ v. IsTrue b ↔ MeetsRvwmo v opening k) e (subst (λ w. IsTrue b ↔ MeetsRvwmo t opening w) f here)
  where
    here : IsTrue b ↔ MeetsRvwmo t opening g
    here = ((λ y. let a = h.0 y in record { lists = lists; load_value = a.1; atomicity = a.2; preserved = a.0 }), λ m. h.1 (m.preserved, m.load_value, m.atomicity))
