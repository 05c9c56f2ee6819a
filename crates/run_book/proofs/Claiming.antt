-- A claim keeps the rule.
use Rattle.std.proofs.Common.{◌≡◌, ℕ, ◌+◌, ◌*◌, eqb, ◌<◌, ◌≤◌, Bool, true, List, [], ◌∷◌, ◌++◌, length, set, get_or, refl, sym, ap, ◌∙◌, subst, ⊎_elim, arith, length-append, length-set, get_or-set_other, get_or-set_same, eq-eqb, ne_eqb}
use mathlib.Core.Option.{none, some}
use mathlib.Core.Logic.{dite}
use native.Mathlib.Decide.{ℕ_discrete}
use prog.Atomic.{either}
use lib.ListN.{get_elem?}
use lib.Seq.{set-get_or}
use Rattle.atomic_table.specs.Table.{State, Me, step, keeps, stepped, Allows}
use Rattle.atomic_table.proofs.Lists.{at_last, at_longer, set_again}
use Rattle.run_book.specs.declared.sitter.Sitter.{Sitter}
use Rattle.run_book.specs.declared.sitter.Size.{Size}
use Rattle.run_book.specs.Lists.{Each, has}
use Rattle.run_book.specs.Rule.{AtRest, Claimed, Fits, BookHolds, View}
use Rattle.run_book.specs.Sitters.{held, numbered, one, sitter, with_claim}
use Rattle.run_book.proofs.Lists.{each_map, elem_below, elem_snoc, has_last, has_left, has_snoc, lacks_from}
use Rattle.run_book.proofs.Sums.{same_sum}
use Rattle.run_book.proofs.Views.{refit}

module _ {S E : Type 0} (items : S → List E) (room : S → ℕ) (hart seat : E → ℕ) (size : Size) where
  -- a step that changes nothing
  pub unmoved_at : (i : ℕ) (s : State S (View E)) (k : BookHolds items room hart seat size s) (id w : ℕ) (v : View E) (cs : List (ℕ × S)) → get_elem? s.views id ≡ some v → get_or s.words i 0 ≡ w
      → BookHolds items room hart seat size (stepped s i w id cs v keeps)
  unmoved_at i s k id w v cs at now =
      let words : set s.words i w ≡ s.words = ap (set s.words i) (sym now) ∙ set-get_or s.words i 0 in
      let views : set s.views id v ≡ s.views = set_again s.views id v at in
      subst (λ (z : List ℕ × List (View E)). BookHolds items room hart seat size record { words = z.0; homes = s.homes; views = z.1 }) (λ j. (sym words j, sym views j)) k

  -- the next turn is claimed, of this round
  claim_one : (s : State S (View E)) (k : BookHolds items room hart seat size s) (id : ℕ) (x : Sitter E) (n round : ℕ) → get_elem? s.views id ≡ some (x ∷ [])
      → get_or s.words 1 0 ≡ n → round * 4294967296 ≤ n → n < round * 4294967296 + size.harts → (cs : List (ℕ × S)) → BookHolds items room hart seat size (stepped s 1 (n + 1) id cs (with_claim n x ∷ []) keeps)
  claim_one s k id x n round at now le lt cs =
      let f = (k.fits id (x ∷ []) at).0 in
      let y : Sitter E = with_claim n x in
      let count : n ≡ length k.owners = sym now ∙ k.counts in
      let begun = k.begun in
      let low = k.low in
      let small = k.small.0 in
      let same_round : k.round ≡ round = omega arith in
      let wide = k.wide in
      let lock : get_or (set s.words 1 (n + 1)) 0 0 ≡ get_or s.words 0 0 = get_or-set_other s.words 1 0 (n + 1) 0 (λ e. omega arith) in
      let word : get_or (set s.words 1 (n + 1)) 1 0 ≡ n + 1 = get_or-set_same s.words 1 (n + 1) 0 (omega arith) in
      let owners : List ℕ = k.owners ++ x.number ∷ [] in
      let long : length owners ≡ n + 1 = omega (arith, length-append k.owners (x.number ∷ [])) in
      let held_same = same_sum held s.views id (x ∷ []) (y ∷ []) at refl in
      let P : Sitter E → Type 0 = Fits items room hart seat size k.owners k.log k.gone k.page (get_or s.words 0 0) k.who k.round in
      let Q : ℕ → Sitter E → Type 0 = λ l. Fits items room hart seat size owners k.log k.gone k.page l k.who k.round in
      record {
        owners = owners;
        log = k.log;
        gone = k.gone;
        page = k.page;
        who = k.who;
        round = k.round;
        wide = length-set s.words 1 (n + 1) ∙ wide;
        counts = word ∙ sym long;
        begun = omega arith;
        low = omega arith;
        small = k.small;
        log_is = k.log_is;
        taken = k.taken;
        entries = each_map (λ e. get_elem? k.owners (hart e) ≡ some (seat e)) (λ e. get_elem? owners (hart e) ≡ some (seat e)) k.log
            (λ e e_at. at_longer k.owners (x.number ∷ []) (hart e) (seat e) e_at) k.entries;
        whose = k.whose;
        apart = k.apart;
        here = k.here;
        settled = λ t o before is_o seated. ⊎_elim (λ old. k.settled t o before old seated) (λ (e : (t ≡ length k.owners) × (x.number ≡ o)). let here = e.0 in absurd (omega arith))
            (elem_snoc k.owners x.number o t is_o);
        free = λ z. let f = k.free (omega arith) in (lock ∙ f.0, held_same ∙ f.1, f.2);
        locked = λ z. held_same ∙ k.locked (sym lock ∙ z);
        seats = λ o b. same_sum (numbered o) s.views id (x ∷ []) (y ∷ []) at refl ∙ k.seats o b;
        all = same_sum one s.views id (x ∷ []) (y ∷ []) at refl ∙ k.all;
        fits = subst (λ (l : ℕ). (j : ℕ) (v : View E) → get_elem? (set s.views id (y ∷ [])) j ≡ some v → Each (Q l) v) (sym lock)
            (refit items room hart seat size P (Q (get_or s.words 0 0)) s k id x y at f.below k.fits
            record {
              harts_are = f.harts_are;
              below = f.below;
              claimed = λ h is. ⊎_elim (λ old. at_longer k.owners (x.number ∷ []) h x.number (f.claimed h old))
                  (λ (e : h ≡ n). at_last k.owners x.number h (omega arith)) (has_snoc x.claims n h is);
              knows = λ h o. ⊎_elim (λ old. has_left x.claims (n ∷ []) h (f.knows h old))
                  (λ (e : (h ≡ length k.owners) × (x.number ≡ x.number)). let eh : n ≡ h = count ∙ sym e.0 in subst (λ (m : ℕ). has (x.claims ++ n ∷ []) m ≡ true) eh (has_last x.claims n))
                  (elem_snoc k.owners x.number x.number h o);
              seen_is = f.seen_is;
              own_is = f.own_is;
              ends = f.ends;
              holds = f.holds;
            }
            (λ z p ne. record {
              harts_are = p.harts_are;
              below = p.below;
              claimed = λ h is. at_longer k.owners (x.number ∷ []) h z.number (p.claimed h is);
              knows = λ h o. ⊎_elim (λ old. p.knows h old) (λ (e : (h ≡ length k.owners) × (x.number ≡ z.number)). absurd (ne (sym e.1))) (elem_snoc k.owners x.number z.number h o);
              seen_is = p.seen_is;
              own_is = p.own_is;
              ends = p.ends;
              holds = p.holds;
            }));
      }

  pub claims : (slots id : ℕ) (m : Me S (View E)) (old new round : ℕ) → AtRest m → new ≡ old + 1 → round * 4294967296 ≤ old → old < round * 4294967296 + size.harts
      → Allows (BookHolds items room hart seat size) slots id m 1 (λ n. either (eqb n old) new n) (Claimed items room hart seat (step slots 1 old new none) m)
  claims slots id m old new round rest next le lt s k long at fits_word =
      let x : Sitter E = sitter m.0 in
      let n : ℕ = get_or s.words 1 0 in
      let at' : get_elem? s.views id ≡ some (x ∷ []) = at ∙ ap some rest.alone in
      let f = (k.fits id (x ∷ []) at').0 in
      dite (ℕ_discrete n old)
      (λ same. let b = claim_one s k id x n round at' refl (omega arith) (omega arith) m.1 in (
        with_claim n x ∷ [],
        keeps,
        tt,
        subst (λ (w : ℕ). BookHolds items room hart seat size (stepped s 1 w id m.1 (with_claim n x ∷ []) keeps)) (sym (ap (λ (c : Bool). either c new n) (eq-eqb n old same) ∙ omega arith)) b,
        (
          (λ _. (
            refl,
            refl,
            lacks_from x.claims n (λ is. let b = elem_below k.owners n x.number (f.claimed n is) in let count = k.counts in omega arith),
          )),
          (λ ne. absurd (ne same)),
        ),
      ))
      (λ taken. (
        m.0,
        keeps,
        tt,
        subst (λ (b : Bool). BookHolds items room hart seat size (stepped s 1 (either b new n) id m.1 m.0 keeps)) (sym (ne_eqb n old taken)) (unmoved_at 1 s k id n m.0 m.1 at refl),
        ((λ z. absurd (taken z)), (λ _. refl)),
      ))
