-- A try at the lock and a release keep the rule.
use Rattle.std.proofs.Common.{◌≡◌, ℕ, ◌+◌, ◌⊎◌, ⊎_elim, ◌*◌, ◌<◌, ◌≤◌, true, false, List, [], ◌∷◌, ◌++◌, drop, length, set, get_or, refl, sym, ap, ◌∙◌, subst, arith, true≢false, append-nil, append_assoc, length-set, get_or-set_other, get_or-set_same, length-append}
use mathlib.Core.Option.{none, some}
use mathlib.Core.Logic.{dite}
use mathlib.Core.List.{map-append}
use native.Mathlib.Decide.{ℕ_discrete}
use lib.ListN.{get_elem?}
use Rattle.atomic_table.specs.Table.{State, Me, step, keeps, takes, gives, rest, stepped, Allows}
use Rattle.atomic_table.proofs.Lists.{set_here}
use Rattle.run_book.specs.declared.sitter.Sitter.{Sitter}
use Rattle.run_book.specs.declared.sitter.Size.{Size}
use Rattle.run_book.specs.Histories.{IsHistory, harts_of, of_seat}
use Rattle.run_book.specs.Lists.{Apart, Begins, Each, has}
use Rattle.run_book.specs.Rule.{Acquired, AtRest, Finds, Fits, BookHolds, Released, Returned, View}
use Rattle.run_book.specs.Sitters.{held, numbered, one, sitter, sum_of, with_lock, with_puts, without_lock}
use Rattle.run_book.proofs.Lists.{apart_snoc, begins_more, begins_same, drop_begin, each_append, has_left}
use Rattle.run_book.proofs.Sums.{held_by, same_sum, sum_set}
use Rattle.run_book.proofs.Claiming.{unmoved_at}
use Rattle.run_book.proofs.Dealing.{rehold}
use Rattle.run_book.proofs.Pages.{few, fewer, log_few, unput_here}
use Rattle.run_book.proofs.Views.{is_history, not_put, of_seat_append, of_seat_mine, of_seat_other, refit}

-- the first slot of a list of slots, or a given one
abbrev pub head_or : {S : Type 0} → S → List (ℕ × S) → S
head_or d [] = d
head_or d (x ∷ xs) = x.1

module _ {S E : Type 0} (items : S → List E) (room : S → ℕ) (hart seat : E → ℕ) (size : Size) where
  -- the free lock is taken, with the slot
  acquire_free : (s : State S (View E)) (k : BookHolds items room hart seat size s) (id : ℕ) (x : Sitter E) (v : S) (cs : List (ℕ × S)) → get_elem? s.views id ≡ some (x ∷ [])
      → 0 < get_or s.words 0 0 → items v ≡ k.page → x.holding ≡ false
      → BookHolds items room hart seat size (stepped s 0 0 id cs (with_lock (k.gone ++ items v) (items v) x ∷ []) (takes 0 v))
  acquire_free s k id x v cs at now page_is idle =
      let f = (k.fits id (x ∷ []) at).0 in
      let y : Sitter E = with_lock (k.gone ++ items v) (items v) x in
      let log_is : (k.gone ++ items v) ≡ k.log = ap (λ (l : List E). k.gone ++ l) page_is ∙ sym k.log_is in
      let wide = k.wide in
      let lock : get_or (set s.words 0 0) 0 0 ≡ 0 = get_or-set_same s.words 0 0 0 (omega arith) in
      let word : get_or (set s.words 0 0) 1 0 ≡ get_or s.words 1 0 = get_or-set_other s.words 0 1 0 0 (λ e. omega arith) in
      let held_more : sum_of held (set s.views id (y ∷ [])) ≡ 1 =
      (let t = sum_set held s.views id (x ∷ []) (y ∷ []) at in let u = held_by x false idle in let l = (k.free now).1 in omega arith) in
      let P : Sitter E → Type 0 = Fits items room hart seat size k.owners k.log k.gone k.page (get_or s.words 0 0) k.who k.round in
      let Q : ℕ → Sitter E → Type 0 = λ l. Fits items room hart seat size k.owners k.log k.gone k.page l x.number k.round in
      rehold items room hart seat size s (stepped s 0 0 id cs (y ∷ []) (takes 0 v)) k x.number (length-set s.words 0 0 ∙ wide) word
      (same_sum one s.views id (x ∷ []) (y ∷ []) at refl) (λ n. same_sum (numbered n) s.views id (x ∷ []) (y ∷ []) at refl) (λ z. absurd (omega arith)) (λ _. held_more)
      (subst (λ (l : ℕ). (j : ℕ) (w : View E) → get_elem? (set s.views id (y ∷ [])) j ≡ some w → Each (Q l) w) (sym lock)
      (refit items room hart seat size P (Q 0) s k id x y at f.below k.fits
      record {
        harts_are = f.harts_are;
        below = f.below;
        claimed = f.claimed;
        knows = f.knows;
        seen_is = subst (λ (l : List E). Begins l k.log) (sym log_is) (begins_same k.log);
        own_is = f.own_is;
        ends = f.ends;
        holds = λ _. (refl, refl, log_is, page_is);
      }
      (λ z p ne. record {
        harts_are = p.harts_are;
        below = p.below;
        claimed = p.claimed;
        knows = p.knows;
        seen_is = p.seen_is;
        own_is = p.own_is;
        ends = p.ends;
        holds = λ h. absurd (let l = (p.holds h).0 in omega arith);
      })))

  -- what the holder is told
  told : (s : State S (View E)) (k : BookHolds items room hart seat size s) (x : Sitter E) (v : S) → Fits items room hart seat size k.owners k.log k.gone k.page (get_or s.words 0 0) k.who k.round x
      → get_or s.words 0 0 ≡ length k.log + 1 → items v ≡ k.page → size.harts ≤ room v → Finds items room hart seat x (get_or s.words 0 0) k.gone v
  told s k x v f next page_is wide =
      let log_is : (k.gone ++ items v) ≡ k.log = ap (λ (l : List E). k.gone ++ l) page_is ∙ sym k.log_is in
      let harts = f.harts_are in
      let low = k.low in
      let begun = k.begun in
      let same : length (items v) ≡ length k.page = ap (λ (l : List E). length l) page_is in
      record {
        position_is = next ∙ ap (λ (l : List E). length l + 1) (sym log_is);
        position_fits = let l = log_few items room hart seat size s k in let r = k.small.2 in omega arith;
        begins = subst (λ (l : List E). Begins x.seen l) (sym log_is) f.seen_is;
        gone = λ z. sym (f.ends z).1;
        own = f.own_is ∙ ap (of_seat hart seat x.number) (sym log_is);
        spare = omega arith;
        few = let a = few items room hart seat size s k in omega arith;
        fewer = λ h is lacks.
            let claimed = f.claimed h is in
            let missing = not_put hart seat k.owners k.log x.own x.number h k.entries claimed f.own_is lacks in
            let short = fewer items room hart seat size s k h x.number claimed f.below missing in
            omega arith;
      }

  pub acquires : (slots id : ℕ) (m : Me S (View E)) → AtRest m
      → Allows (BookHolds items room hart seat size) slots id m 0 (λ _. 0) (Acquired items room hart seat (step slots 0 0 0 none) m)
  acquires slots id m rest s k long at fits_word =
      let x : Sitter E = sitter m.0 in
      let n : ℕ = get_or s.words 0 0 in
      let at' : get_elem? s.views id ≡ some (x ∷ []) = at ∙ ap some rest.alone in
      let f = (k.fits id (x ∷ []) at').0 in
      dite (ℕ_discrete n 0)
      (λ z. (m.0, keeps, tt, unmoved_at items room hart seat size 0 s k id 0 m.0 m.1 at z, ((λ lt. absurd (omega arith)), (λ _. refl))))
      (λ free. let lt : 0 < n = omega arith in let f_lock = k.free lt in let h = f_lock.2 in (
        with_lock (k.gone ++ items h.0) (items h.0) x ∷ [],
        takes 0 h.0,
        h.1,
        acquire_free s k id x h.0 m.1 at' lt h.2 rest.idle,
        ((λ _. record { found = h.0; before = k.gone; sees = refl; carries = refl; finds = told s k x h.0 f f_lock.0 h.2 h.3 }), (λ z. absurd (free z))),
      ))

  -- what the holder brings: one entry more in the slot, of a hart that it claimed and has not put
  pub record Ready (x : Sitter E) (v : S) (e : E) : Type 0 where
    pub holding : x.holding ≡ true
    pub pushed : items v ≡ x.page ++ e ∷ []
    pub wide_room : x.harts ≤ room v
    pub mine : seat e ≡ x.number
    pub claimed : has x.claims (hart e) ≡ true
    pub lacks : has (harts_of hart seat x.own) (hart e) ≡ false

  -- the holder gives the lock up, with one entry more in the slot
  release_one : (s : State S (View E)) (k : BookHolds items room hart seat size s) (id : ℕ) (x : Sitter E) (v : S) (e : E) (new : ℕ) → get_elem? s.views id ≡ some (x ∷ [])
      → length s.homes ≡ 1 → Ready x v e → new ≡ length x.seen + 2
      → BookHolds items room hart seat size (stepped s 0 new id ((0, v) ∷ []) (with_puts (items v) x ∷ []) gives)
      × IsHistory hart seat x.number x.claims (x.seen ++ drop (length x.page) (items v))
  release_one s k id x v e new at long ready new_is =
      let holding = ready.holding in
      let pushed = ready.pushed in
      let mine = ready.mine in
      let claimed = ready.claimed in
      let lacks = ready.lacks in
      let f = (k.fits id (x ∷ []) at).0 in
      let held_facts = f.holds holding in
      let y : Sitter E = with_puts (items v) x in
      let log : List E = k.log ++ e ∷ [] in
      let wide = k.wide in
      let long_log : new ≡ length log + 1 = (let a = length-append k.log (e ∷ []) in let b = ap (λ (l : List E). length l) held_facts.2 in omega arith) in
      let lock : get_or (set s.words 0 new) 0 0 ≡ new = get_or-set_same s.words 0 new 0 (omega arith) in
      let word : get_or (set s.words 0 new) 1 0 ≡ get_or s.words 1 0 = get_or-set_other s.words 0 1 new 0 (λ z. omega arith) in
      let held_less : sum_of held (set s.views id (y ∷ [])) ≡ 0 =
      (let t = sum_set held s.views id (x ∷ []) (y ∷ []) at in let u = held_by x true holding in let l = k.locked held_facts.0 in omega arith) in
      let own_place = f.claimed (hart e) claimed in
      let missing : has (harts_of hart seat k.log) (hart e) ≡ false = not_put hart seat k.owners k.log x.own x.number (hart e) k.entries own_place f.own_is lacks in
      let entered : Each (λ a. get_elem? k.owners (hart a) ≡ some (seat a)) log =
      each_append (λ a. get_elem? k.owners (hart a) ≡ some (seat a)) k.log (e ∷ []) k.entries (own_place ∙ ap some (sym mine), tt) in
      let apart : Apart (harts_of hart seat log) = subst Apart (sym (map-append hart k.log (e ∷ []))) (apart_snoc (harts_of hart seat k.log) (hart e) k.apart missing) in
      let added : drop (length x.page) (items v) ≡ e ∷ [] = ap (drop (length x.page)) pushed ∙ drop_begin x.page (e ∷ []) in
      let page_is : items v ≡ k.page ++ e ∷ [] = pushed ∙ ap (λ (l : List E). l ++ e ∷ []) held_facts.3 in
      let log_is : (x.seen ++ drop (length x.page) (items v)) ≡ log = ap (λ (l : List E). x.seen ++ l) added ∙ ap (λ (l : List E). l ++ e ∷ []) held_facts.2 in
      let P : Sitter E → Type 0 = Fits items room hart seat size k.owners k.log k.gone k.page (get_or s.words 0 0) k.who k.round in
      let Q : ℕ → Sitter E → Type 0 = λ l. Fits items room hart seat size k.owners log k.gone (items v) l k.who k.round in (
        record {
          owners = k.owners;
          log = log;
          who = k.who;
          wide = length-set s.words 0 new ∙ wide;
          gone = k.gone;
          page = items v;
          round = k.round;
          counts = word ∙ k.counts;
          begun = k.begun;
          low = k.low;
          small = k.small;
          log_is = ap (λ (l : List E). l ++ e ∷ []) k.log_is ∙ (append_assoc k.gone k.page (e ∷ []) ∙ ap (λ (l : List E). k.gone ++ l) (sym page_is));
          taken = k.taken;
          entries = entered;
          whose = each_append (λ a. seat a < size.seats) k.log (e ∷ []) k.whose ((let b = f.below in omega arith), tt);
          apart = apart;
          here = subst (Each (λ a. k.round * 4294967296 ≤ hart a)) (sym page_is)
              (each_append (λ a. k.round * 4294967296 ≤ hart a) k.page (e ∷ []) k.here
              (unput_here items room hart seat size s k (hart e) x.number own_place f.below missing, tt));
          settled = λ t o lt at_t seated. subst (λ (l : List ℕ). has l t ≡ true) (sym (map-append hart k.log (e ∷ []))) (has_left (harts_of hart seat k.log) (harts_of hart seat (e ∷ [])) t (k.settled t o lt at_t seated));
          free = λ z. (omega arith, held_less, (v, set_here s.homes 0 (some v) (omega arith), refl, (let h = f.harts_are in let r = ready.wide_room in omega arith)));
          locked = λ z. absurd (omega arith);
          seats = λ o b. same_sum (numbered o) s.views id (x ∷ []) (y ∷ []) at refl ∙ k.seats o b;
          all = same_sum one s.views id (x ∷ []) (y ∷ []) at refl ∙ k.all;
          fits = subst (λ (l : ℕ). (j : ℕ) (w : View E) → get_elem? (set s.views id (y ∷ [])) j ≡ some w → Each (Q l) w) (sym lock)
              (refit items room hart seat size P (Q new) s k id x y at f.below k.fits
              record {
                harts_are = f.harts_are;
                below = f.below;
                claimed = f.claimed;
                knows = f.knows;
                seen_is = subst (λ (l : List E). Begins l log) (sym log_is) (begins_same log);
                ends = f.ends;
                own_is = ap (λ (l : List E). x.own ++ l) added ∙ (ap (λ (l : List E). l ++ e ∷ []) f.own_is
                    ∙ sym (of_seat_append hart seat x.number k.log (e ∷ []) ∙ ap (λ (l : List E). of_seat hart seat x.number k.log ++ l) (of_seat_mine hart seat x.number e [] mine)));
                holds = λ h. absurd (true≢false (sym h));
              }
              (λ z p ne. record {
                harts_are = p.harts_are;
                below = p.below;
                claimed = p.claimed;
                knows = p.knows;
                seen_is = begins_more z.seen k.log (e ∷ []) p.seen_is;
                ends = p.ends;
                own_is = p.own_is ∙ sym (of_seat_append hart seat z.number k.log (e ∷ [])
                    ∙ (ap (λ (l : List E). of_seat hart seat z.number k.log ++ l) (of_seat_other hart seat z.number e [] (λ same. ne (sym same ∙ mine)))
                    ∙ append-nil (of_seat hart seat z.number k.log)));
                holds = λ h. absurd (ne (sym (p.holds h).1 ∙ held_facts.1));
              }));
        },
        subst (λ (l : List E). IsHistory hart seat x.number x.claims l) (sym log_is) (is_history hart seat k.owners x.claims log x.number apart entered f.knows),
      )

  pub releases : (slots id : ℕ) (m : Me S (View E)) (x : Sitter E) (v : S) (e : E) (new : ℕ) → slots ≡ 1 → m.0 ≡ x ∷ [] → m.1 ≡ (0, v) ∷ [] → Ready x v e → new ≡ length x.seen + 2
      → Allows (BookHolds items room hart seat size) slots id m 0 (λ _. new) (λ _. Released items room hart seat (step slots 0 new 0 none) m new)
  releases slots id m x v e new single alone carries ready new_is s k long at fits_word =
      let at' : get_elem? s.views id ≡ some (x ∷ []) = at ∙ ap some alone in
      let is : x ≡ sitter m.0 = sym (ap sitter alone) in
      let r = release_one s k id x v e new at' (long ∙ single) ready new_is in (
        with_puts (items v) x ∷ [],
        gives,
        tt,
        subst (λ (cs : List (ℕ × S)). BookHolds items room hart seat size (stepped s 0 new id cs (with_puts (items v) x ∷ []) gives)) (sym carries) r.0,
        (λ w has_w. let same : v ≡ w = ap (head_or v) (sym carries ∙ has_w) in (
          subst (λ (z : Sitter E). with_puts (items v) x ∷ [] ≡ with_puts (items v) z ∷ []) is refl ∙ ap (λ (u : S). with_puts (items u) (sitter m.0) ∷ []) same,
          ap (λ (cs : List (ℕ × S)). rest cs) carries,
          subst (λ (u : S). IsHistory hart seat (sitter m.0).number (sitter m.0).claims ((sitter m.0).seen ++ drop (length (sitter m.0).page) (items u))) same
              (subst (λ (z : Sitter E). IsHistory hart seat z.number z.claims (z.seen ++ drop (length z.page) (items v))) is r.1),
        )),
      )

  -- the holder gives the lock up, with what it knows of the slot
  return_one : (s : State S (View E)) (k : BookHolds items room hart seat size s) (id : ℕ) (x : Sitter E) (v : S) (new : ℕ) → get_elem? s.views id ≡ some (x ∷ [])
      → length s.homes ≡ 1 → x.holding ≡ true → items v ≡ x.page → (x.harts ≤ room v) ⊎ (size.harts ≤ room v) → new ≡ length x.seen + 1
      → BookHolds items room hart seat size (stepped s 0 new id ((0, v) ∷ []) (without_lock x ∷ []) gives)
  return_one s k id x v new at long holding stands wide_room new_is =
      let f = (k.fits id (x ∷ []) at).0 in
      let held_facts = f.holds holding in
      let y : Sitter E = without_lock x in
      let wide = k.wide in
      let lock : get_or (set s.words 0 new) 0 0 ≡ new = get_or-set_same s.words 0 new 0 (omega arith) in
      let word : get_or (set s.words 0 new) 1 0 ≡ get_or s.words 1 0 = get_or-set_other s.words 0 1 new 0 (λ z. omega arith) in
      let held_less : sum_of held (set s.views id (y ∷ [])) ≡ 0 =
      (let t = sum_set held s.views id (x ∷ []) (y ∷ []) at in let u = held_by x true holding in let l = k.locked held_facts.0 in omega arith) in
      let P : Sitter E → Type 0 = Fits items room hart seat size k.owners k.log k.gone k.page (get_or s.words 0 0) k.who k.round in
      let Q : ℕ → Sitter E → Type 0 = λ l. Fits items room hart seat size k.owners k.log k.gone k.page l k.who k.round in
      rehold items room hart seat size s (stepped s 0 new id ((0, v) ∷ []) (y ∷ []) gives) k k.who (length-set s.words 0 new ∙ wide) word
      (same_sum one s.views id (x ∷ []) (y ∷ []) at refl) (λ n. same_sum (numbered n) s.views id (x ∷ []) (y ∷ []) at refl)
      (λ z. (
        (let b = ap (λ (l : List E). length l) held_facts.2 in omega arith),
        held_less,
        (v, set_here s.homes 0 (some v) (omega arith), stands ∙ held_facts.3, ⊎_elim (λ (own : x.harts ≤ room v). let h = f.harts_are in omega arith) (λ (all : size.harts ≤ room v). all) wide_room),
      ))
      (λ z. absurd (omega arith))
      (subst (λ (l : ℕ). (j : ℕ) (w : View E) → get_elem? (set s.views id (y ∷ [])) j ≡ some w → Each (Q l) w) (sym lock)
      (refit items room hart seat size P (Q new) s k id x y at f.below k.fits
      record {
        harts_are = f.harts_are;
        below = f.below;
        claimed = f.claimed;
        knows = f.knows;
        seen_is = f.seen_is;
        own_is = f.own_is;
        ends = f.ends;
        holds = λ h. absurd (true≢false (sym h));
      }
      (λ z p ne. record {
        harts_are = p.harts_are;
        below = p.below;
        claimed = p.claimed;
        knows = p.knows;
        seen_is = p.seen_is;
        own_is = p.own_is;
        ends = p.ends;
        holds = λ h. absurd (ne (sym (p.holds h).1 ∙ held_facts.1));
      })))

  pub returns : (slots id : ℕ) (m : Me S (View E)) (x : Sitter E) (v : S) (new : ℕ) → slots ≡ 1 → m.0 ≡ x ∷ [] → m.1 ≡ (0, v) ∷ [] → x.holding ≡ true → items v ≡ x.page → (x.harts ≤ room v) ⊎ (size.harts ≤ room v) → new ≡ length x.seen + 1
      → Allows (BookHolds items room hart seat size) slots id m 0 (λ _. new) (λ _. Returned items room hart seat (step slots 0 new 0 none) m new)
  returns slots id m x v new single alone carries holding stands wide_room new_is s k long at fits_word =
      let at' : get_elem? s.views id ≡ some (x ∷ []) = at ∙ ap some alone in
      let is : x ≡ sitter m.0 = sym (ap sitter alone) in
      let r = return_one s k id x v new at' (long ∙ single) holding stands wide_room new_is in (
        without_lock x ∷ [],
        gives,
        tt,
        subst (λ (cs : List (ℕ × S)). BookHolds items room hart seat size (stepped s 0 new id cs (without_lock x ∷ []) gives)) (sym carries) r,
        (ap (λ (z : Sitter E). without_lock z ∷ []) is, refl),
      )
