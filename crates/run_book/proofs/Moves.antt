-- Legal lists of moves: one leaves the history of a closed book, and complete ones leave the same entries.
use Rattle.std.proofs.Common.{◌≡◌, ◌≢◌, ℕ, ◌≤◌, cond, Bool, true, false, List, [], ◌∷◌, ◌++◌, map, length, Option, Some, None, is_some, option_map, refl, sym, ap, ◌∙◌, subst, ⊎_elim, arith, true≢false, append_assoc, append-nil, length-append, eq-eqb, ne_eqb}
use mathlib.Core.Option.{some}
use mathlib.Core.Logic.{dite}
use mathlib.Core.List.{map-append}
use native.Mathlib.Decide.{ℕ_discrete}
use lib.ListN.{get_elem?}
use Rattle.run_book.specs.Histories.{AllMay, Gathering, Made, Move, SameTable, after_move, after_moves, claims, entry_of, harts_of, opening, puts, releases, takes}
use Rattle.run_book.specs.Lists.{Apart, Each, has}
use Rattle.run_book.proofs.Lists.{has_cases, has_from_times, has_head, has_skip, has_tail, lacks_head, lacks_tail, never}

-- in numbers apart, none before a number is the same
apart_mid : (xs : List ℕ) (y : ℕ) (ys : List ℕ) → Apart (xs ++ y ∷ ys) → has xs y ≡ false
apart_mid [] y ys a = refl
apart_mid (x ∷ xs) y ys a = dite (ℕ_discrete y x)
    (λ e. absurd (never (has (xs ++ y ∷ ys) x) (in_middle xs x y ys (sym e)) a.0))
    (λ ne. has_skip x y xs ne ∙ apart_mid xs y ys a.1)
  where
    in_middle : (zs : List ℕ) (n m : ℕ) (ws : List ℕ) → n ≡ m → has (zs ++ m ∷ ws) n ≡ true
    in_middle [] n m ws e = has_head m n ws e
    in_middle (z ∷ zs) n m ws e = has_tail z n (zs ++ m ∷ ws) (in_middle zs n m ws e)

some_shown : {A B : Type 0} (f : A → B) (o : Option A) (b : B) → option_map f o ≡ Some b → is_some o ≡ true
some_shown f None b e = absurd (cc)
some_shown f (Some a) b e = refl

none_shown : {A B : Type 0} (f : A → B) (o : Option A) → option_map f o ≡ None → is_some o ≡ false
none_shown f None e = refl
none_shown f (Some a) e = absurd (cc)

module _ {E : Type 0} (hart seat : E → ℕ) where
  -- the entry of a hart that stands in the history
  pub found : (es : List E) (h : ℕ) → has (harts_of hart seat es) h ≡ true → (e : E) × (entry_of hart seat h es ≡ Some e) × (hart e ≡ h)
  found [] h is = absurd (true≢false (sym is))
  found (e ∷ es) h is = dite (ℕ_discrete (hart e) h)
      (λ here. (e, ap (λ (b : Bool). cond b (Some e) (entry_of hart seat h es)) (eq-eqb (hart e) h here), here))
      (λ else. let r = found es h (⊎_elim (λ (i : h ≡ hart e). absurd (else (sym i))) (λ t. t) (has_cases (hart e) h (harts_of hart seat es) is)) in
      (r.0, ap (λ (b : Bool). cond b (Some e) (entry_of hart seat h es)) (ne_eqb (hart e) h else) ∙ r.1, r.2))

  -- no entry of a hart that does not stand in the history
  pub missing : (es : List E) (h : ℕ) → has (harts_of hart seat es) h ≡ false → entry_of hart seat h es ≡ None
  missing [] h is = refl
  missing (e ∷ es) h is =
      let else : hart e ≢ h = λ here. lacks_head (hart e) h (harts_of hart seat es) is (sym here) in
      ap (λ (b : Bool). cond b (Some e) (entry_of hart seat h es)) (ne_eqb (hart e) h else) ∙ missing es h (lacks_tail (hart e) h (harts_of hart seat es) is)

  -- an entry that is shown stands in the history
  pub has_from_entry : {A : Type 0} (f : A → E) (o : Option A) (es : List E) (h : ℕ) → option_map f o ≡ entry_of hart seat h es → is_some o ≡ true → has (harts_of hart seat es) h ≡ true
  has_from_entry f o es h shown some_is = go (has (harts_of hart seat es) h) refl
    where
      go : (b : Bool) → has (harts_of hart seat es) h ≡ b → has (harts_of hart seat es) h ≡ true
      go true is = is
      go false is = absurd (never (is_some o) some_is (none_shown f o (shown ∙ missing es h is)))

  pub entry_from_has : {A : Type 0} (f : A → E) (o : Option A) (es : List E) (h : ℕ) → option_map f o ≡ entry_of hart seat h es → has (harts_of hart seat es) h ≡ true → is_some o ≡ true
  entry_from_has f o es h shown is = let e = found es h is in some_shown f o e.0 (shown ∙ e.1)

  module _ (right : E → Type 0) (harts : ℕ) where
    -- any two complete lists leave the same entries
    pub same_table : ((e : E) → right e) → SameTable hart seat right harts
    same_table is_right xs ys may_xs may_ys all_xs all_ys h lt =
        let us : List E = (after_moves opening xs).history in
        let vs : List E = (after_moves opening ys).history in
        let a = found us h (has_from_times (harts_of hart seat us) h (all_xs h lt)) in
        let b = found vs h (has_from_times (harts_of hart seat vs) h (all_ys h lt)) in
        (a.0, b.0, a.1, b.1, is_right a.0, is_right b.0, a.2, b.2)

    may_append : (m : Gathering E) (xs ys : List (Move E)) → AllMay hart seat right harts m xs → AllMay hart seat right harts (after_moves m xs) ys → AllMay hart seat right harts m (xs ++ ys)
    may_append m [] ys a b = b
    may_append m (x ∷ xs) ys a b = (a.0, may_append (after_move m x) xs ys a.1 b)

    after_append : (m : Gathering E) (xs ys : List (Move E)) → after_moves m (xs ++ ys) ≡ after_moves (after_moves m xs) ys
    after_append m [] ys = refl
    after_append m (x ∷ xs) ys = after_append (after_move m x) xs ys

    abbrev at_rest : List ℕ → List E → Gathering E
    at_rest owners es = record { owners = owners; holder = None; history = es }

    abbrev claim_moves : List ℕ → List (Move E)
    claim_moves os = map claims os

    claims_may : (done rest : List ℕ) → length (done ++ rest) ≤ harts
        → AllMay hart seat right harts (at_rest done []) (claim_moves rest) × (after_moves (at_rest done []) (claim_moves rest) ≡ at_rest (done ++ rest) [])
    claims_may done [] le = (tt, ap (λ (os : List ℕ). at_rest os []) (sym (append-nil done)))
    claims_may done (o ∷ rest) le =
        let regroup : (done ++ o ∷ []) ++ rest ≡ done ++ o ∷ rest = append_assoc done (o ∷ []) rest in
        let long : length ((done ++ o ∷ []) ++ rest) ≡ length (done ++ o ∷ rest) = ap (λ (l : List ℕ). length l) regroup in
        let r = claims_may (done ++ o ∷ []) rest (omega arith) in
        let all = length-append done (o ∷ rest) in
        ((omega arith, r.0), r.1 ∙ ap (λ (os : List ℕ). at_rest os []) regroup)

    abbrev put_moves : List E → List (Move E)
    put_moves [] = []
    put_moves (e ∷ es) = takes (seat e) ∷ puts e ∷ releases ∷ put_moves es

    puts_may : ((e : E) → right e) → (owners : List ℕ) (done rest : List E) → Each (λ e. get_elem? owners (hart e) ≡ some (seat e)) rest → Apart (harts_of hart seat (done ++ rest))
        → AllMay hart seat right harts (at_rest owners done) (put_moves rest) × (after_moves (at_rest owners done) (put_moves rest) ≡ at_rest owners (done ++ rest))
    puts_may is_right owners done [] es apart = (tt, ap (at_rest owners) (sym (append-nil done)))
    puts_may is_right owners done (e ∷ rest) es apart =
        let regroup : (done ++ e ∷ []) ++ rest ≡ done ++ e ∷ rest = append_assoc done (e ∷ []) rest in
        let r = puts_may is_right owners (done ++ e ∷ []) rest es.1 (subst (λ (l : List E). Apart (harts_of hart seat l)) (sym regroup) apart) in
        let new : has (harts_of hart seat done) (hart e) ≡ false = apart_mid (harts_of hart seat done) (hart e) (harts_of hart seat rest) (subst Apart (map-append hart done (e ∷ rest)) apart) in
        ((refl, ((refl, es.0, new, is_right e), ((seat e, refl), r.0))), r.1 ∙ ap (at_rest owners) regroup)

    -- the claims first, then each put between a taking of the lock and its release
    pub made : ((e : E) → right e) → (owners : List ℕ) (es : List E) → length owners ≤ harts → Each (λ e. get_elem? owners (hart e) ≡ some (seat e)) es → Apart (harts_of hart seat es)
        → Made hart seat right harts owners es
    made is_right owners es le entries apart =
        let a = claims_may [] owners le in
        let b = puts_may is_right owners [] es entries apart in (
          claim_moves owners ++ put_moves es,
          may_append opening (claim_moves owners) (put_moves es) a.0 (subst (λ (m : Gathering E). AllMay hart seat right harts m (put_moves es)) (sym a.1) b.0),
          after_append opening (claim_moves owners) (put_moves es) ∙ (ap (λ (m : Gathering E). after_moves m (put_moves es)) a.1 ∙ b.1),
        )
