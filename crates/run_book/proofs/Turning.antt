-- The holder of the lock ends a round and begins another one, and that keeps the rule.
use Rattle.std.proofs.Common.{◌≡◌, ℕ, zero, suc, eqb, ◌+◌, ◌-◌, ◌*◌, ◌^◌, ◌<◌, ◌≤◌, Bool, true, List, [], ◌∷◌, ◌++◌, length, drop, replicate, set, get_or, refl, sym, ap, ◌∙◌, subst, ⊎_elim, arith, append-nil, length-append, length-set, get_or-set_other, get_or-set_same, eq-eqb, ne_eqb, lt_of_not-le}
use mathlib.Core.Option.{none, some}
use mathlib.Core.Logic.{dite}
use native.Mathlib.Decide.{ℕ_discrete, dec_le}
use prog.Atomic.{either}
use lib.ListN.{get_elem?}
use Rattle.atomic_table.specs.Table.{State, Me, step, keeps, stepped, Allows}
use Rattle.atomic_table.proofs.Lists.{at_longer}
use Rattle.run_book.specs.declared.sitter.Sitter.{Sitter}
use Rattle.run_book.specs.declared.sitter.Size.{Size}
use Rattle.run_book.specs.Histories.{harts_of}
use Rattle.run_book.specs.Lists.{Apart, Each}
use Rattle.run_book.specs.Rule.{BookHolds, Ended, Fits, Turned, View}
use Rattle.run_book.specs.Sitters.{held, numbered, one, sitter, with_turn}
use Rattle.run_book.proofs.Claiming.{unmoved_at}
use Rattle.run_book.proofs.Lists.{drop_at, drop_long, each_both, Between, each_map, elem_below, elem_padded}
use Rattle.run_book.proofs.Pages.{page_entries, all_put, claimed_now, entry_between, few, log_few, page_apart}
use Rattle.run_book.proofs.Sums.{same_sum}
use Rattle.run_book.proofs.Views.{refit}

length_nobody : (n a : ℕ) → length (replicate n a) ≡ n
length_nobody zero a = refl
length_nobody (suc n) a = let r = length_nobody n a in omega arith

module _ {S E : Type 0} (items : S → List E) (room : S → ℕ) (hart seat : E → ℕ) (size : Size) where
  turn_one : (s : State S (View E)) (k : BookHolds items room hart seat size s) (id : ℕ) (x : Sitter E) (old new round next : ℕ) → get_elem? s.views id ≡ some (x ∷ []) → x.holding ≡ true
      → get_or s.words 1 0 ≡ old → old ≡ round * 4294967296 + length x.page → new ≡ next * 4294967296 → round < next → next < 2 ^ 32 → (cs : List (ℕ × S))
      → x.number ≡ 0 → BookHolds items room hart seat size (stepped s 1 new id cs (with_turn next x ∷ []) keeps) × Ended hart seat old x
  turn_one s k id x old new round next at holding now old_is new_is later low_round cs zeroth =
      let f = (k.fits id (x ∷ []) at).0 in
      let held_facts = f.holds holding in
      let y : Sitter E = with_turn next x in
      let counts = k.counts in
      let begun = k.begun in
      let low = k.low in
      let small = k.small.0 in
      let few_here = few items room hart seat size s k in
      let as_long : length x.page ≡ length k.page = ap (λ (l : List E). length l) held_facts.3 in
      let same_round : k.round ≡ round = omega arith in
      let whole : length k.page ≡ claimed_now items room hart seat size s k = omega arith in
      let wide = k.wide in
      let lock : get_or (set s.words 1 new) 0 0 ≡ get_or s.words 0 0 = get_or-set_other s.words 1 0 new 0 (λ e. omega arith) in
      let word : get_or (set s.words 1 new) 1 0 ≡ new = get_or-set_same s.words 1 new 0 (omega arith) in
      let nobody : List ℕ = replicate (new - length k.owners) size.seats in
      let owners : List ℕ = k.owners ++ nobody in
      let long : length owners ≡ new =
      (let a = length-append k.owners nobody in let b = length_nobody (new - length k.owners) size.seats in omega arith) in
      let P : Sitter E → Type 0 = Fits items room hart seat size k.owners k.log k.gone k.page (get_or s.words 0 0) k.who k.round in
      let Q : ℕ → Sitter E → Type 0 = λ l. Fits items room hart seat size owners k.log k.log [] l k.who next in (
        record {
          owners = owners;
          log = k.log;
          gone = k.log;
          page = [];
          who = k.who;
          round = next;
          wide = length-set s.words 1 new ∙ wide;
          counts = word ∙ sym long;
          begun = omega arith;
          low = omega arith;
          small = (k.small.0, k.small.1, low_round);
          log_is = sym (append-nil k.log);
          taken = let l = log_few items room hart seat size s k in omega arith;
          entries = each_map (λ e. get_elem? k.owners (hart e) ≡ some (seat e)) (λ e. get_elem? owners (hart e) ≡ some (seat e)) k.log
              (λ e e_at. at_longer k.owners nobody (hart e) (seat e) e_at) k.entries;
          whose = k.whose;
          apart = k.apart;
          here = tt;
          settled = λ t o before is_o seated. ⊎_elim
              (λ (there : get_elem? k.owners t ≡ some o). dite (dec_le (k.round * 4294967296) t)
              (λ le. all_put items room hart seat size s k t whole le (elem_below k.owners t o there))
              (λ gt. k.settled t o (lt_of_not-le gt) there seated))
              (λ (none_has : o ≡ size.seats). absurd (omega arith))
              (elem_padded k.owners (new - length k.owners) size.seats t o is_o);
          free = λ z. absurd (let a = held_facts.0 in omega arith);
          locked = λ z. same_sum held s.views id (x ∷ []) (y ∷ []) at refl ∙ k.locked held_facts.0;
          seats = λ o b. same_sum (numbered o) s.views id (x ∷ []) (y ∷ []) at refl ∙ k.seats o b;
          all = same_sum one s.views id (x ∷ []) (y ∷ []) at refl ∙ k.all;
          fits = subst (λ (l : ℕ). (j : ℕ) (w : View E) → get_elem? (set s.views id (y ∷ [])) j ≡ some w → Each (Q l) w) (sym lock)
              (refit items room hart seat size P (Q (get_or s.words 0 0)) s k id x y at f.below k.fits
              record {
                harts_are = f.harts_are;
                below = f.below;
                claimed = λ h is. at_longer k.owners nobody h x.number (f.claimed h is);
                knows = λ h o. ⊎_elim (λ there. f.knows h there) (λ (none_has : x.number ≡ size.seats). absurd (let b = f.below in omega arith)) (elem_padded k.owners (new - length k.owners) size.seats h x.number o);
                seen_is = f.seen_is;
                own_is = f.own_is;
                ends = λ _. (refl, held_facts.2);
                holds = λ _. (held_facts.0, held_facts.1, held_facts.2, refl);
              }
              (λ z p ne. record {
                harts_are = p.harts_are;
                below = p.below;
                claimed = λ h is. at_longer k.owners nobody h z.number (p.claimed h is);
                knows = λ h o. ⊎_elim (λ there. p.knows h there) (λ (none_has : z.number ≡ size.seats). absurd (let b = p.below in omega arith)) (elem_padded k.owners (new - length k.owners) size.seats h z.number o);
                seen_is = p.seen_is;
                own_is = p.own_is;
                ends = λ z_zeroth. absurd (ne (z_zeroth ∙ sym zeroth));
                holds = λ h. absurd (ne (sym (p.holds h).1 ∙ held_facts.1));
              }));
        },
        record {
          round = k.round;
          counts = omega arith;
          few = omega arith;
          apart = subst (λ (l : List E). Apart (harts_of hart seat l)) (sym held_facts.3) (page_apart items room hart seat size s k);
          within = subst (λ (l : List E). Each (λ e. (k.round * 4294967296 ≤ hart e) × (hart e < k.round * 4294967296 + length l)) l) (sym held_facts.3)
              (each_map (λ e. Between (k.round * 4294967296) (length k.owners - k.round * 4294967296) (hart e)) (λ e. (k.round * 4294967296 ≤ hart e) × (hart e < k.round * 4294967296 + length k.page)) k.page
              (λ e b. (b.0, let u = b.1 in omega arith)) (entry_between items room hart seat size s k));
          owners = drop (k.round * 4294967296) k.owners;
          all_claimed = (let d = drop_long (k.round * 4294967296) k.owners in omega arith);
          entries = subst (Each (λ e. get_elem? (drop (k.round * 4294967296) k.owners) (hart e - k.round * 4294967296) ≡ some (seat e))) (sym held_facts.3)
              (each_both (λ e. k.round * 4294967296 ≤ hart e) (λ e. get_elem? k.owners (hart e) ≡ some (seat e)) (λ e. get_elem? (drop (k.round * 4294967296) k.owners) (hart e - k.round * 4294967296) ≡ some (seat e)) k.page
              (λ e le at_e. drop_at (k.round * 4294967296) k.owners (hart e - k.round * 4294967296) (hart e) (seat e) (omega arith) at_e) k.here (page_entries items room hart seat size s k));
        },
      )

  pub turns : (slots id : ℕ) (m : Me S (View E)) (x : Sitter E) (old new round next : ℕ) → m.0 ≡ x ∷ [] → x.number ≡ 0 → x.holding ≡ true → old ≡ round * 4294967296 + length x.page → new ≡ next * 4294967296 → round < next → next < 2 ^ 32
      → Allows (BookHolds items room hart seat size) slots id m 1 (λ n. either (eqb n old) new n) (Turned items room hart seat (step slots 1 old new none) m)
  turns slots id m x old new round next alone zeroth holding old_is new_is later low_round s k long at fits_word =
      let n : ℕ = get_or s.words 1 0 in
      let at' : get_elem? s.views id ≡ some (x ∷ []) = at ∙ ap some alone in
      let is : x ≡ sitter m.0 = sym (ap sitter alone) in
      dite (ℕ_discrete n old)
      (λ same. let t = turn_one s k id x old new round next at' holding same old_is new_is later low_round m.1 zeroth in (
        with_turn next x ∷ [],
        keeps,
        tt,
        subst (λ (w : ℕ). BookHolds items room hart seat size (stepped s 1 w id m.1 (with_turn next x ∷ []) keeps)) (sym (ap (λ (c : Bool). either c new n) (eq-eqb n old same))) t.0,
        ((λ _. (refl, (next, new_is, ap (λ (z : Sitter E). with_turn next z ∷ []) is), subst (λ (w : ℕ). Ended hart seat w (sitter m.0)) (sym same) (subst (Ended hart seat old) is t.1))), (λ ne. absurd (ne same))),
      ))
      (λ other. (
        m.0,
        keeps,
        tt,
        subst (λ (b : Bool). BookHolds items room hart seat size (stepped s 1 (either b new n) id m.1 m.0 keeps)) (sym (ne_eqb n old other)) (unmoved_at items room hart seat size 1 s k id n m.0 m.1 at refl),
        ((λ z. absurd (other z)), (λ _. refl)),
      ))
