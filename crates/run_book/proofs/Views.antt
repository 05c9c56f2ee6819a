-- What the rule knows of all views, when one of them changes.
use Rattle.std.proofs.Common.{◌≡◌, ◌≢◌, ℕ, ◌<◌, ◌≤◌, true, false, if◌then◌else◌, Bool, List, [], ◌∷◌, ◌++◌, length, set, refl, sym, ap, ◌∙◌, subst, ⊎_elim, arith, eq-eqb, ne_eqb}
use mathlib.Core.Option.{some}
use mathlib.Core.Logic.{dite}
use native.Mathlib.Decide.{ℕ_discrete}
use lib.ListN.{get_elem?}
use Rattle.atomic_table.specs.Table.{State}
use Rattle.atomic_table.proofs.Lists.{at_set}
use Rattle.run_book.specs.declared.sitter.Sitter.{Sitter}
use Rattle.run_book.specs.declared.sitter.Size.{Size}
use Rattle.run_book.specs.Lists.{Each, has, Apart}
use Rattle.run_book.specs.Histories.{IsHistory, harts_of, of_seat}
use Rattle.run_book.specs.Rule.{BookHolds, View}
use Rattle.run_book.specs.Sitters.{numbered}
use Rattle.run_book.proofs.Lists.{each_map, each_both, elem_one, has_cases, has_head, has_tail, lacks_from, never}
use Rattle.run_book.proofs.Sums.{none_numbered, numbered_self, sum_two}

-- facts on histories, whatever the slot is
module _ {E : Type 0} (hart seat : E → ℕ) where
  abbrev entered : List ℕ → E → Type 0
  entered owners e = get_elem? owners (hart e) ≡ some (seat e)

  pub of_seat_mine : (n : ℕ) (e : E) (log : List E) → seat e ≡ n → of_seat hart seat n (e ∷ log) ≡ e ∷ of_seat hart seat n log
  of_seat_mine n e log mine = let rest : List E = of_seat hart seat n log in ap (λ (b : Bool). if b then e ∷ rest else rest) (eq-eqb (seat e) n mine)

  pub of_seat_other : (n : ℕ) (e : E) (log : List E) → seat e ≢ n → of_seat hart seat n (e ∷ log) ≡ of_seat hart seat n log
  of_seat_other n e log not_mine = let rest : List E = of_seat hart seat n log in ap (λ (b : Bool). if b then e ∷ rest else rest) (ne_eqb (seat e) n not_mine)

  pub of_seat_append : (n : ℕ) (es fs : List E) → of_seat hart seat n (es ++ fs) ≡ of_seat hart seat n es ++ of_seat hart seat n fs
  of_seat_append n [] fs = refl
  of_seat_append n (e ∷ es) fs = let r = of_seat_append n es fs in dite (ℕ_discrete (seat e) n)
      (λ mine. of_seat_mine n e (es ++ fs) mine ∙ (ap (λ (l : List E). e ∷ l) r ∙ sym (ap (λ (l : List E). l ++ of_seat hart seat n fs) (of_seat_mine n e es mine))))
      (λ not_mine. of_seat_other n e (es ++ fs) not_mine ∙ (r ∙ sym (ap (λ (l : List E). l ++ of_seat hart seat n fs) (of_seat_other n e es not_mine))))

  pub of_seat_shorter : (n : ℕ) (es : List E) → length (of_seat hart seat n es) ≤ length es
  of_seat_shorter n [] = omega arith
  of_seat_shorter n (e ∷ es) = let r = of_seat_shorter n es in dite (ℕ_discrete (seat e) n)
      (λ mine. let l = ap (λ (k : List E). length k) (of_seat_mine n e es mine) in omega arith)
      (λ not_mine. let l = ap (λ (k : List E). length k) (of_seat_other n e es not_mine) in omega arith)

  -- what a seat claimed and what stands in the history is among the seat's own puts
  pub own_has : (owners : List ℕ) (log : List E) (n h : ℕ) → Each (entered owners) log → get_elem? owners h ≡ some n
      → has (harts_of hart seat log) h ≡ true → has (harts_of hart seat (of_seat hart seat n log)) h ≡ true
  own_has owners [] n h es at is = is
  own_has owners (e ∷ log) n h es at is =
      let P : List E → Type 0 = λ l. has (harts_of hart seat l) h ≡ true in
      ⊎_elim
      (λ (here : h ≡ hart e). let mine : seat e ≡ n = elem_one owners h (seat e) n (subst (λ (k : ℕ). get_elem? owners k ≡ some (seat e)) (sym here) es.0) at in
      subst P (sym (of_seat_mine n e log mine)) (has_head (hart e) h (harts_of hart seat (of_seat hart seat n log)) here))
      (λ (there : has (harts_of hart seat log) h ≡ true). let r = own_has owners log n h es.1 at there in dite (ℕ_discrete (seat e) n)
      (λ mine. subst P (sym (of_seat_mine n e log mine)) (has_tail (hart e) h (harts_of hart seat (of_seat hart seat n log)) r))
      (λ not_mine. subst P (sym (of_seat_other n e log not_mine)) r))
      (has_cases (hart e) h (harts_of hart seat log) is)

  -- so what a seat claimed and has not put stands nowhere in the history
  pub not_put : (owners : List ℕ) (log own : List E) (n h : ℕ) → Each (entered owners) log → get_elem? owners h ≡ some n → own ≡ of_seat hart seat n log
      → has (harts_of hart seat own) h ≡ false → has (harts_of hart seat log) h ≡ false
  not_put owners log own n h es at own_is lacks = lacks_from (harts_of hart seat log) h
      (λ is. never (has (harts_of hart seat own) h) (subst (λ (l : List E). has (harts_of hart seat l) h ≡ true) (sym own_is) (own_has owners log n h es at is)) lacks)

  pub length_harts : (log : List E) → length (harts_of hart seat log) ≡ length log
  length_harts [] = refl
  length_harts (e ∷ log) = let r = length_harts log in omega arith

  -- the history is legal as one seat sees it
  pub is_history : (owners claims : List ℕ) (log : List E) (n : ℕ) → Apart (harts_of hart seat log) → Each (entered owners) log
      → ((h : ℕ) → get_elem? owners h ≡ some n → has claims h ≡ true) → IsHistory hart seat n claims log
  is_history owners claims log n apart es knows = record {
    apart = apart;
    claimed_are = each_map (entered owners) (λ e. seat e ≡ n → has claims (hart e) ≡ true) log
        (λ e at mine. knows (hart e) (subst (λ (k : ℕ). get_elem? owners (hart e) ≡ some k) mine at)) es;
  }

module _ {S E : Type 0} (items : S → List E) (room : S → ℕ) (hart seat : E → ℕ) (size : Size) where
  -- the sitters of every other view have other numbers
  pub others_differ : (s : State S (View E)) (k : BookHolds items room hart seat size s) (id j : ℕ) (x : Sitter E) (v : View E) → get_elem? s.views id ≡ some (x ∷ [])
      → x.number < size.seats → j ≢ id → get_elem? s.views j ≡ some v → Each (λ z. z.number ≢ x.number) v
  others_differ s k id j x v at below ne there =
      let t = sum_two (numbered x.number) s.views id j (x ∷ []) v ne at there in
      let o = k.seats x.number below in
      let n = numbered_self x in
      none_numbered x.number v (omega arith)

  -- a fact of all sitters, after one view of one sitter has changed
  pub refit : (P Q : Sitter E → Type 0) (s : State S (View E)) (k : BookHolds items room hart seat size s) (id : ℕ) (x y : Sitter E) → get_elem? s.views id ≡ some (x ∷ [])
      → x.number < size.seats → ((j : ℕ) (v : View E) → get_elem? s.views j ≡ some v → Each P v) → Q y → ((z : Sitter E) → P z → z.number ≢ x.number → Q z)
      → (j : ℕ) (v : View E) → get_elem? (set s.views id (y ∷ [])) j ≡ some v → Each Q v
  refit P Q s k id x y at below before mine others j v e = ⊎_elim
      (λ (t : (j ≡ id) × ((y ∷ []) ≡ v)). subst (Each Q) t.1 (mine, tt))
      (λ (t : (j ≢ id) × (get_elem? s.views j ≡ some v)).
      each_both P (λ z. z.number ≢ x.number) Q v others (before j v t.1) (others_differ s k id j x v at below t.0 t.1))
      (at_set s.views id j (y ∷ []) v e)
