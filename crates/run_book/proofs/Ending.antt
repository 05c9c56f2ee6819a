-- What the rule says once all seats lie in one view, at the closing of a book.
use Rattle.std.proofs.Common.{◌≡◌, ◌≢◌, ℕ, ◌-◌, ◌<◌, ◌≤◌, cond, Bool, true, false, true≢false, List, [], ◌∷◌, ◌++◌, drop, map, length, set, get_or, refl, sym, ap, ◌∙◌, subst, arith, append_assoc, lt_of_not-le, eq-eqb, ne_eqb}
use mathlib.Core.Option.{some, some-injective}
use mathlib.Core.Logic.{dite}
use mathlib.Core.List.{map-append}
use native.Mathlib.Decide.{ℕ_discrete, dec_le}
use lib.ListN.{get_elem?}
use Rattle.atomic_table.specs.Seated.{TableId}
use Rattle.atomic_table.specs.Table.{State, Final, Seen}
use Rattle.run_book.specs.declared.sitter.Sitter.{Sitter}
use Rattle.run_book.specs.declared.sitter.Size.{Size}
use Rattle.run_book.specs.Closing.{AllParted, IsClosed, Owns, Parted, gone_of}
use Rattle.run_book.specs.Histories.{Made, harts_of, of_seat}
use Rattle.run_book.specs.Known.{Known, known}
use Rattle.run_book.specs.Lists.{Apart, Begins, Each, has}
use Rattle.run_book.specs.Rule.{Fits, BookHolds, View}
use Rattle.run_book.specs.Sitters.{held, numbered, one, sitter, sum_in, sum_of}
use Rattle.run_book.specs.Turns.{first_turn, turn_of}
use Rattle.run_book.proofs.Lists.{apart_right, drop_at, drop_from, drop_long, each_both, each_map, each_mapped, elem_one, has_head, has_tail, lacks_from, minus_all, minus_of}
use Rattle.run_book.proofs.Moves.{made}
use Rattle.run_book.proofs.Pages.{page_apart, page_entries}
use Rattle.run_book.proofs.Sums.{held_by, held_one, length_in, none_numbered, numbered_at, numbered_other, numbered_self, sum_in_append, sum_le, sum_set}

not_none : (n : ℕ) → (n ≡ 0 → ⊥) → 0 < n
not_none n ne = dite (ℕ_discrete n 0) (λ e. absurd (ne e)) (λ e. omega arith)

-- nothing came off the end of a list
pub none_popped : (n : ℕ) → (0 < n → false ≡ true) → n ≡ 0
none_popped n deny = dite (dec_le n 0) (λ le. omega arith) (λ gt. absurd (true≢false (sym (deny (lt_of_not-le gt)))))

module _ {E : Type 0} where
  -- where one view has all sitters, a sum over all views is that over it
  all_here : (f : Sitter E → ℕ) (vs : List (View E)) (id : ℕ) (v : View E) → ((x : Sitter E) → f x ≤ one x) → get_elem? vs id ≡ some v → sum_of one vs ≡ sum_in one v
      → sum_of f vs ≡ sum_in f v
  all_here f vs id v le at all =
      let a = sum_set f vs id v [] at in
      let b = sum_set one vs id v [] at in
      let c = sum_le f one le (set vs id []) in
      omega arith

  numbered_one : (k : ℕ) (x : Sitter E) → numbered k x ≤ one x
  numbered_one k x = dite (ℕ_discrete x.number k) (λ e. let n = numbered_at k x e in omega arith) (λ ne. let n = numbered_other k x ne in omega arith)

  as_long : (t : TableId) (v : View E) → length (map (known t) v) ≡ length v
  as_long t [] = refl
  as_long t (x ∷ v) = let r = as_long t v in omega arith

  numbered_has : (t : TableId) (v : View E) (n : ℕ) → sum_in (numbered n) v ≡ 1 → has (map (λ k. k.number) (map (known t) v)) n ≡ true
  numbered_has t [] n e = absurd (omega arith)
  numbered_has t (x ∷ v) n e = dite (ℕ_discrete x.number n)
      (λ here. has_head x.number n (map (λ k. k.number) (map (known t) v)) (sym here))
      (λ else. let z = numbered_other n x else in has_tail x.number n (map (λ k. k.number) (map (known t) v)) (numbered_has t v n (omega arith)))

  none_past : (v : View E) (seats n : ℕ) → seats ≤ n → Each (λ x. x.number < seats) v → sum_in (numbered n) v ≡ 0
  none_past [] seats n le es = refl
  none_past (x ∷ v) seats n le es = let b = es.0 in let o = numbered_other n x (λ e. omega arith) in let r = none_past v seats n le es.1 in omega arith

  single_of : (v : View E) (seats : ℕ) → ((n : ℕ) → n < seats → sum_in (numbered n) v ≡ 1) → Each (λ x. x.number < seats) v → (n : ℕ) → sum_in (numbered n) v ≤ 1
  single_of v seats ones below n = dite (dec_le seats n) (λ le. let r = none_past v seats n le below in omega arith) (λ gt. let r = ones n (lt_of_not-le gt) in omega arith)

  -- the seat with number 0 knows what is gone
  gone_from : (t : TableId) (v : View E) (gone : List E) → sum_in (numbered 0) v ≡ 1 → Each (λ x. x.number ≡ 0 → x.gone ≡ gone) v → gone_of (map (known t) v) ≡ gone
  gone_from t [] gone e es = absurd (omega arith)
  gone_from t (x ∷ v) gone e es = dite (ℕ_discrete x.number 0)
      (λ here. ap (λ (b : Bool). cond b x.gone (gone_of (map (known t) v))) (eq-eqb x.number 0 here) ∙ es.0 here)
      (λ else. let z = numbered_other 0 x else in ap (λ (b : Bool). cond b x.gone (gone_of (map (known t) v))) (ne_eqb x.number 0 else) ∙ gone_from t v gone (omega arith) es.1)

  -- a sitter's claims are just the turns that it owns
  record Claims (owners : List ℕ) (x : Sitter E) : Type 0 where
    pub claimed : (h : ℕ) → has x.claims h ≡ true → get_elem? owners h ≡ some x.number
    pub knows : (h : ℕ) → get_elem? owners h ≡ some x.number → has x.claims h ≡ true

  parted : (t : TableId) (owners : List ℕ) (v : View E) → Each (Claims owners) v → ((n : ℕ) → sum_in (numbered n) v ≤ 1) → AllParted (map (known t) v)
  parted t owners [] es le = tt
  parted t owners (x ∷ v) es le =
      let a = numbered_self x in
      let b = le x.number in
      let others : Each (λ z. z.number ≢ x.number) v = none_numbered x.number v (omega arith) in (
        each_mapped (known t) (Parted (known t x)) v (each_both (λ z. z.number ≢ x.number) (Claims owners) (λ z. Parted (known t x) (known t z)) v
            (λ z ne o. record {
              numbers = λ e. ne (sym e);
              claims = λ h is. lacks_from z.claims h (λ too. ne (elem_one owners h z.number x.number (o.claimed h too) (es.0.claimed h is)));
            }) others es.1),
        parted t owners v es.1 (λ n. let c = le n in omega arith),
      )

  owns : (t : TableId) (owners : List ℕ) (round : ℕ) (x : Sitter E) → Claims owners x → Owns round (drop (first_turn round) owners) (known t x)
  owns t owners round x c = record {
    claimed = λ h is. drop_at (first_turn round) owners h (turn_of round h) x.number refl (c.claimed (turn_of round h) is);
    knows = λ h at. c.knows (turn_of round h) (drop_from (first_turn round) owners h (turn_of round h) x.number refl at);
  }

  -- one seat's view is joined before the others'
  pub joined_view : (t : TableId) (v w : View E) (k : Known E) → v ≡ sitter v ∷ [] → known t (sitter v) ≡ k → map (known t) (v ++ w) ≡ k ∷ map (known t) w
  joined_view t v w k alone is = ap (λ (u : View E). map (known t) (u ++ w)) alone ∙ ap (λ (z : Known E). z ∷ map (known t) w) is

  pub joined_idle : (v w : View E) → v ≡ sitter v ∷ [] → (sitter v).holding ≡ false → sum_in held w ≡ 0 → sum_in held (v ++ w) ≡ 0
  joined_idle v w alone idle none =
      let a = sum_in_append held v w in
      let b : sum_in held v ≡ sum_in held (sitter v ∷ []) = ap (sum_in held) alone in
      let c = held_by (sitter v) false idle in
      omega arith

  -- a seat is taken off the end of a list
  pub taken_off : (all seats rest : List (Known E)) (k : Known E) (ps : List (Known E)) → all ≡ seats ++ ps → seats ≡ rest ++ k ∷ [] → all ≡ rest ++ k ∷ ps
  taken_off all seats rest k ps e f = e ∙ (ap (λ l. l ++ ps) f ∙ append_assoc rest (k ∷ []) ps)

  pub length_none : (xs : List (Known E)) → length xs ≡ 0 → xs ≡ []
  length_none [] e = refl
  length_none (x ∷ xs) e = absurd (omega arith)

module _ {S E : Type 0} (items : S → List E) (room : S → ℕ) (hart seat : E → ℕ) (size : Size) (right : E → Type 0) (is_right : (e : E) → right e) where
  made_here : (s : State S (View E)) (k : BookHolds items room hart seat size s) → Made (λ e. hart e - first_turn k.round) seat right size.harts (drop (first_turn k.round) k.owners) k.page
  made_here s k =
      let first : ℕ = first_turn k.round in
      made (λ e. hart e - first) seat right size.harts is_right (drop first k.owners) k.page
      (let d = drop_long first k.owners in let l = k.low in omega arith)
      (each_both (λ e. first ≤ hart e) (λ e. get_elem? k.owners (hart e) ≡ some (seat e)) (λ e. get_elem? (drop first k.owners) (hart e - first) ≡ some (seat e)) k.page
      (λ e le at. drop_at first k.owners (hart e - first) (hart e) (seat e) (omega arith) at) k.here (page_entries items room hart seat size s k))
      (subst Apart (minus_of hart first k.page) (minus_all first (harts_of hart seat k.page) (each_mapped hart (λ y. first ≤ y) k.page k.here) (page_apart items room hart seat size s k)))

  -- the book is closed with all seats in one view
  pub closes : (t : TableId) (id : ℕ) (ks : List (Known E)) (view : View E) (ws : List ℕ) (xs : List S) (v : S) → Final (Seen (BookHolds items room hart seat size) id view) ws xs → 0 < size.seats → length ks ≡ size.seats
      → ks ≡ map (known t) view → sum_in held view ≡ 0 → get_elem? xs 0 ≡ some v → IsClosed hart seat right size.harts ks (gone_of ks ++ items v) (items v)
  closes t id ks view ws xs v final some_seat long are idle taken =
      let s : State S (View E) = final.0 in
      let k = final.1.0 in
      let at = final.1.1 in
      let as_many : length ks ≡ length view = ap (λ (l : List (Known E)). length l) are ∙ as_long t view in
      let all : sum_of one s.views ≡ sum_in one view = k.all ∙ (sym long ∙ (as_many ∙ sym (length_in view))) in
      let held_here = all_here held s.views id view held_one at all in
      let slot = (k.free (not_none (get_or s.words 0 0) (λ z. let locked = k.locked z in omega arith))).2 in
      let same : slot.0 ≡ v = some-injective slot.0 v (sym (final.4 0 slot.0 slot.1) ∙ taken) in
      let page_is : k.page ≡ items v = sym slot.2 ∙ ap items same in
      let P : Sitter E → Type 0 = Fits items room hart seat size k.owners k.log k.gone k.page (get_or s.words 0 0) k.who k.round in
      let each : Each P view = k.fits id view at in
      let number_here : (n : ℕ) → n < size.seats → sum_in (numbered n) view ≡ 1 = λ n b. sym (all_here (numbered n) s.views id view (numbered_one n) at all) ∙ k.seats n b in
      let claims : Each (Claims k.owners) view = each_map P (Claims k.owners) view (λ x f. record { claimed = f.claimed; knows = f.knows }) each in
      let gone : gone_of (map (known t) view) ≡ k.gone = gone_from t view k.gone (number_here 0 some_seat) (each_map P (λ x. x.number ≡ 0 → x.gone ≡ k.gone) view (λ x f z. (f.ends z).1) each) in
      let log_is : k.log ≡ gone_of (map (known t) view) ++ items v = k.log_is ∙ (ap (λ (l : List E). l ++ k.page) (sym gone) ∙ ap (λ (l : List E). gone_of (map (known t) view) ++ l) page_is) in
      subst (λ (z : List (Known E)). IsClosed hart seat right size.harts z (gone_of z ++ items v) (items v)) (sym are)
      (subst (λ (l : List E). IsClosed hart seat right size.harts (map (known t) view) l (items v)) log_is
      (subst (λ (l : List E). IsClosed hart seat right size.harts (map (known t) view) k.log l) page_is record {
        begins = each_mapped (known t) (λ l. Begins l.seen k.log) view (each_map P (λ x. Begins x.seen k.log) view (λ x f. f.seen_is) each);
        own = each_mapped (known t) (λ l. l.own ≡ of_seat hart seat l.number k.log) view (each_map P (λ x. x.own ≡ of_seat hart seat x.number k.log) view (λ x f. f.own_is) each);
        whose = each_map (λ e. seat e < size.seats) (λ e. has (map (λ l. l.number) (map (known t) view)) (seat e) ≡ true) k.log (λ e b. numbered_has t view (seat e) (number_here (seat e) b)) k.whose;
        apart = k.apart;
        parted = parted t k.owners view claims (single_of view size.seats number_here (each_map P (λ x. x.number < size.seats) view (λ x f. f.below) each));
        round = k.round;
        open_is = each_mapped (known t) (λ l. l.number ≡ 0 → l.round ≡ k.round) view (each_map P (λ x. x.number ≡ 0 → x.round ≡ k.round) view (λ x f z. (f.ends z).0) each);
        owners = drop (first_turn k.round) k.owners;
        made = made_here s k;
        claims = each_mapped (known t) (Owns k.round (drop (first_turn k.round) k.owners)) view
            (each_map (Claims k.owners) (λ x. Owns k.round (drop (first_turn k.round) k.owners) (known t x)) view (λ x c. owns t k.owners k.round x c) claims);
      }))

-- what stood in the slot has no turn twice
pub closed_apart : {E : Type 0} → (turn seat : E → ℕ) (right : E → Type 0) (harts : ℕ) (ks : List (Known E)) (gone es : List E) → IsClosed turn seat right harts ks (gone ++ es) es → Apart (harts_of turn seat es)
closed_apart turn seat right harts ks gone es c = apart_right (harts_of turn seat gone) (harts_of turn seat es) (subst Apart (map-append turn gone es) c.apart)
