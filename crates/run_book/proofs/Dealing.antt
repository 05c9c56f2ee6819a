-- The cutting of a view and the joining of two keep the rule.
use Rattle.std.proofs.Common.{◌≡◌, ◌≢◌, ℕ, ◌+◌, ◌<◌, ◌≤◌, length, List, [], ◌∷◌, ◌++◌, set, get_or, refl, sym, ap, ◌∙◌, subst, ⊎_elim, arith}
use mathlib.Core.Option.{some}
use lib.ListN.{get_elem?}
use Rattle.atomic_table.specs.Table.{State, Splits, Joins}
use Rattle.atomic_table.proofs.Lists.{at_set, at_snoc, set_else}
use Rattle.run_book.specs.declared.sitter.Sitter.{Sitter}
use Rattle.run_book.specs.declared.sitter.Size.{Size}
use Rattle.run_book.specs.Lists.{Each}
use Rattle.run_book.specs.Rule.{Fits, BookHolds, View}
use Rattle.run_book.specs.Sitters.{first_of, held, numbered, one, others_of, sum_in, sum_of, with_seen}
use Rattle.run_book.proofs.Lists.{each_append, each_left, each_right}
use Rattle.run_book.proofs.Sums.{sum_append, sum_in_append, sum_set}

module _ {E : Type 0} where
  sum_split : (f : Sitter E → ℕ) (vs : List (View E)) (id : ℕ) (v left right : View E) → get_elem? vs id ≡ some v → left ++ right ≡ v
      → sum_of f (set vs id left ++ right ∷ []) ≡ sum_of f vs
  sum_split f vs id v left right at e =
      let a = sum_append f (set vs id left) right in
      let b = sum_set f vs id v left at in
      let c = sum_in_append f left right in
      let d : sum_in f (left ++ right) ≡ sum_in f v = ap (sum_in f) e in
      omega arith

  sum_join : (f : Sitter E → ℕ) (vs : List (View E)) (id other : ℕ) (v w : View E) → get_elem? vs id ≡ some v → get_elem? (set vs id (v ++ w)) other ≡ some w
      → sum_of f (set (set vs id (v ++ w)) other []) ≡ sum_of f vs
  sum_join f vs id other v w at there =
      let a = sum_set f vs id v (v ++ w) at in
      let b = sum_set f (set vs id (v ++ w)) other w [] there in
      let c = sum_in_append f v w in
      omega arith

module _ {S E : Type 0} (items : S → List E) (room : S → ℕ) (hart seat : E → ℕ) (size : Size) where
  -- a change that leaves the turns and the history as they are, and each seat in its place
  pub rehold : (s t : State S (View E)) (k : BookHolds items room hart seat size s) (who : ℕ) → length t.words ≡ 2 → get_or t.words 1 0 ≡ get_or s.words 1 0
      → sum_of one t.views ≡ sum_of one s.views → ((n : ℕ) → sum_of (numbered n) t.views ≡ sum_of (numbered n) s.views)
      → (0 < get_or t.words 0 0 → (get_or t.words 0 0 ≡ length k.log + 1) × (sum_of held t.views ≡ 0) × ((v : S) × (get_elem? t.homes 0 ≡ some (some v)) × (items v ≡ k.page) × (size.harts ≤ room v)))
      → (get_or t.words 0 0 ≡ 0 → sum_of held t.views ≡ 1)
      → ((j : ℕ) (v : View E) → get_elem? t.views j ≡ some v → Each (Fits items room hart seat size k.owners k.log k.gone k.page (get_or t.words 0 0) who k.round) v)
      → BookHolds items room hart seat size t
  rehold s t k who wide counts all_are numbered_are free locked fits = record {
    owners = k.owners;
    log = k.log;
    gone = k.gone;
    page = k.page;
    who = who;
    round = k.round;
    wide = wide;
    counts = counts ∙ k.counts;
    begun = k.begun;
    low = k.low;
    small = k.small;
    log_is = k.log_is;
    taken = k.taken;
    entries = k.entries;
    whose = k.whose;
    apart = k.apart;
    here = k.here;
    settled = k.settled;
    free = free;
    locked = locked;
    seats = λ o b. numbered_are o ∙ k.seats o b;
    all = all_are ∙ k.all;
    fits = fits;
  }

  -- a change of views alone that keeps all sums
  pub resight : (s : State S (View E)) (k : BookHolds items room hart seat size s) (views : List (View E)) → ((f : Sitter E → ℕ) → ((x : Sitter E) (es : List E) → f (with_seen es x) ≡ f x) → sum_of f views ≡ sum_of f s.views)
      → ((j : ℕ) (v : View E) → get_elem? views j ≡ some v → Each (Fits items room hart seat size k.owners k.log k.gone k.page (get_or s.words 0 0) k.who k.round) v)
      → BookHolds items room hart seat size record { words = s.words; homes = s.homes; views = views }
  resight s k views sums fits =
      let held_are = sums held (λ x es. refl) in
      rehold s record { words = s.words; homes = s.homes; views = views } k k.who k.wide refl (sums one (λ x es. refl)) (λ n. sums (numbered n) (λ x es. refl))
      (λ z. let f = k.free z in (f.0, held_are ∙ f.1, f.2)) (λ z. held_are ∙ k.locked z) fits

  pub splits : (id : ℕ) (v left right : View E) → left ++ right ≡ v → Splits (BookHolds items room hart seat size) id v left right
  splits id v left right e s k at =
      let P : Sitter E → Type 0 = Fits items room hart seat size k.owners k.log k.gone k.page (get_or s.words 0 0) k.who k.round in
      let whole : Each P (left ++ right) = subst (Each P) (sym e) (k.fits id v at) in
      resight s k (set s.views id left ++ right ∷ []) (λ f _. sum_split f s.views id v left right at e)
      (λ j u there. ⊎_elim
      (λ (t : get_elem? (set s.views id left) j ≡ some u). ⊎_elim
      (λ (here : (j ≡ id) × (left ≡ u)). subst (Each P) here.1 (each_left P left right whole))
      (λ (else : (j ≢ id) × (get_elem? s.views j ≡ some u)). k.fits j u else.1)
      (at_set s.views id j left u t))
      (λ (t : right ≡ u). subst (Each P) t (each_right P left right whole))
      (at_snoc (set s.views id left) right u j there))

  pub joins : (id : ℕ) (v : View E) (other : ℕ) (w : View E) → Joins (BookHolds items room hart seat size) id v other w (v ++ w) []
  joins id v other w s k at apart there =
      let P : Sitter E → Type 0 = Fits items room hart seat size k.owners k.log k.gone k.page (get_or s.words 0 0) k.who k.round in
      let before : get_elem? s.views other ≡ some w = sym (set_else s.views id other (v ++ w) apart) ∙ there in
      resight s k (set (set s.views id (v ++ w)) other []) (λ f _. sum_join f s.views id other v w at there)
      (λ j u here. ⊎_elim
      (λ (t : (j ≡ other) × ([] ≡ u)). subst (Each P) t.1 tt)
      (λ (t : (j ≢ other) × (get_elem? (set s.views id (v ++ w)) j ≡ some u)). ⊎_elim
      (λ (both : (j ≡ id) × ((v ++ w) ≡ u)). subst (Each P) both.1 (each_append P v w (k.fits id v at) (k.fits other w before)))
      (λ (else : (j ≢ id) × (get_elem? s.views j ≡ some u)). k.fits j u else.1)
      (at_set s.views id j (v ++ w) u t.1))
      (at_set (set s.views id (v ++ w)) other j [] u here))

pub rejoined : {E : Type 0} → (v : View E) → first_of v ++ others_of v ≡ v
rejoined [] = refl
rejoined (x ∷ xs) = refl
