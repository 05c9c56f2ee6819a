-- A meeting keeps the rule.
use Rattle.std.proofs.Common.{◌≡◌, ◌≢◌, ℕ, ◌⊎◌, false, List, [], ◌∷◌, ◌++◌, length, set, get_or, refl, sym, ap, ◌∙◌, subst, ⊎_elim, inl, inr, arith, true≢false, lt_of_not-le, le_of_lt}
use mathlib.Core.Option.{none, some}
use mathlib.Core.Logic.{dite}
use native.Mathlib.Decide.{dec_le}
use lib.ListN.{get_elem?}
use lib.Seq.{set-get_or}
use Rattle.atomic_table.specs.Table.{State, Me, step, keeps, stepped, Allows}
use Rattle.atomic_table.proofs.Lists.{at_set}
use Rattle.run_book.specs.declared.sitter.Sitter.{Sitter}
use Rattle.run_book.specs.declared.sitter.Size.{Size}
use Rattle.run_book.specs.Lists.{Begins, Each}
use Rattle.run_book.specs.Rule.{Compared, Fits, BookHolds, Met, View}
use Rattle.run_book.specs.Sitters.{numbered, others_of, sitter, with_seen}
use Rattle.run_book.proofs.Dealing.{resight}
use Rattle.run_book.proofs.Lists.{begins_longer, begins_same, elem_one, lacks_from}
use Rattle.run_book.proofs.Sums.{numbered_at, numbered_self, same_sum, sum_one}

module _ {S E : Type 0} (items : S → List E) (room : S → ℕ) (hart seat : E → ℕ) (size : Size) where
  -- the two sitters of a view both see the longer of what they saw
  meet_one : (s : State S (View E)) (k : BookHolds items room hart seat size s) (id w : ℕ) (x y : Sitter E) (es : List E) (cs : List (ℕ × S)) → get_elem? s.views id ≡ some (x ∷ y ∷ [])
      → get_or s.words 0 0 ≡ w → x.holding ≡ false → y.holding ≡ false → Begins es k.log
      → BookHolds items room hart seat size (stepped s 0 w id cs (with_seen es x ∷ with_seen es y ∷ []) keeps)
  meet_one s k id w x y es cs at now idle_x idle_y begins =
      let P : Sitter E → Type 0 = Fits items room hart seat size k.owners k.log k.gone k.page (get_or s.words 0 0) k.who k.round in
      let f = k.fits id (x ∷ y ∷ []) at in
      let v : View E = with_seen es x ∷ with_seen es y ∷ [] in
      let words : set s.words 0 w ≡ s.words = ap (set s.words 0) (sym now) ∙ set-get_or s.words 0 0 in
      let seen : (z : Sitter E) → P z → z.holding ≡ false → P (with_seen es z) = λ z p idle. record {
        harts_are = p.harts_are;
        below = p.below;
        claimed = p.claimed;
        knows = p.knows;
        seen_is = begins;
        own_is = p.own_is;
        ends = p.ends;
        holds = λ h. absurd (true≢false (sym h ∙ idle));
      } in
      subst (λ (z : List ℕ). BookHolds items room hart seat size record { words = z; homes = s.homes; views = set s.views id v }) (sym words)
      (resight items room hart seat size s k (set s.views id v)
      (λ f same. same_sum f s.views id (x ∷ y ∷ []) v at (let a = same x es in let b = same y es in omega arith))
      (λ j u there. ⊎_elim
      (λ (t : (j ≡ id) × (v ≡ u)). subst (Each P) t.1 (seen x f.0 idle_x, (seen y f.1.0 idle_y, tt)))
      (λ (t : (j ≢ id) × (get_elem? s.views j ≡ some u)). k.fits j u t.1)
      (at_set s.views id j v u there)))

  met : (s : State S (View E)) (k : BookHolds items room hart seat size s) (id : ℕ) (x y : Sitter E) (es : List E) (m : Me S (View E)) → get_elem? s.views id ≡ some (x ∷ y ∷ [])
      → Begins x.seen es → Begins y.seen es → (es ≡ x.seen) ⊎ (es ≡ y.seen) → Met items room hart seat x y m (with_seen es x ∷ with_seen es y ∷ [], m.1)
  met s k id x y es m at begins_x begins_y which =
      let f = k.fits id (x ∷ y ∷ []) at in
      let fx = f.0 in
      let fy = f.1.0 in
      record {
        longer = es;
        views = refl;
        carries = refl;
        begins_first = begins_x;
        begins_second = begins_y;
        either = which;
        apart = λ h is. lacks_from y.claims h (λ too.
            let same : x.number ≡ y.number = elem_one k.owners h x.number y.number (fx.claimed h is) (fy.claimed h too) in
            let a = numbered_self x in
            let b = numbered_at x.number y (sym same) in
            let c = sum_one (numbered x.number) s.views id (x ∷ y ∷ []) at in
            let d = k.seats x.number fx.below in
            omega arith);
      }

  -- the longer of two beginnings
  longer_of : (xs ys all : List E) → Begins xs all → Begins ys all → (es : List E) × Begins es all × Begins xs es × Begins ys es × ((es ≡ xs) ⊎ (es ≡ ys))
  longer_of xs ys all b c = dite (dec_le (length xs) (length ys))
      (λ le. (ys, c, begins_longer xs ys all b c le, begins_same ys, inr refl))
      (λ gt. (xs, b, begins_same xs, begins_longer ys xs all c b (le_of_lt (lt_of_not-le gt)), inl refl))

  pub compares : (slots id : ℕ) (m : Me S (View E)) → m.0 ≡ sitter m.0 ∷ sitter (others_of m.0) ∷ [] → (sitter m.0).holding ≡ false → (sitter (others_of m.0)).holding ≡ false
      → Allows (BookHolds items room hart seat size) slots id m 0 (λ n. n) (Compared items room hart seat (step slots 0 0 0 none) m)
  compares slots id m two idle_x idle_y s k long at fits_word =
      let x : Sitter E = sitter m.0 in
      let y : Sitter E = sitter (others_of m.0) in
      let at' : get_elem? s.views id ≡ some (x ∷ y ∷ []) = at ∙ ap some two in
      let f = k.fits id (x ∷ y ∷ []) at' in
      let l = longer_of x.seen y.seen k.log f.0.seen_is f.1.0.seen_is in
      (with_seen l.0 x ∷ with_seen l.0 y ∷ [], keeps, tt, meet_one s k id (get_or s.words 0 0) x y l.0 m.1 at' refl idle_x idle_y l.1, met s k id x y l.0 m at' l.2 l.3 l.4)

-- the view of a seat that took in another's
module _ {S E : Type 0} where
  pub record Two (m : Me S (View E)) (x y : Sitter E) : Type 0 where
    pub two : m.0 ≡ sitter m.0 ∷ sitter (others_of m.0) ∷ []
    pub first_is : sitter m.0 ≡ x
    pub second_is : sitter (others_of m.0) ≡ y

  pub two_of : (m : Me S (View E)) (a b : View E) → m.0 ≡ a ++ b → a ≡ sitter a ∷ [] → b ≡ sitter b ∷ [] → Two m (sitter a) (sitter b)
  two_of m a b e f h =
      let both : m.0 ≡ sitter a ∷ sitter b ∷ [] = e ∙ (ap (λ (v : View E). v ++ b) f ∙ ap (λ (v : View E). sitter a ∷ v) h) in
      record {
        two = both ∙ sym (ap (λ (v : View E). sitter v ∷ sitter (others_of v) ∷ []) both);
        first_is = ap sitter both;
        second_is = ap (λ (v : View E). sitter (others_of v)) both;
      }
