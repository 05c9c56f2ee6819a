-- What a worker keeps of its seat, and when a history is whole.
use Rattle.std.proofs.Common.{◌≡◌, ℕ, zero, suc, ◌<◌, ◌≤◌, true, false, refl, map, slice_index_or, remove, List, [], ◌∷◌, ◌++◌, length, sym, ap, ◌∙◌, subst, arith}
use mathlib.Core.List.{map-append}
use Rattle.atomic_table.specs.Seated.{TableId}
use Rattle.run_book.specs.Histories.{harts_of}
use Rattle.run_book.specs.Known.{IsRound, Known, Puts, fresh_seats, known}
use Rattle.run_book.specs.Lists.{Each, has}
use Rattle.run_book.specs.Sitters.{newcomers_from}
use Rattle.run_book.specs.Turns.{first_turn, turn_of}
use Rattle.run_book.specs.Working.{IsCalling, IsHonest, IsWhole, KeepsRound}
use Rattle.run_book.proofs.Lists.{Between, all_between, each_map, each_mapped, has_last, has_left, lacks_from, lacks_snoc, never, times_once}
use Rattle.run_book.proofs.Views.{length_harts}

module _ {E : Type 0} (turn seat : E → ℕ) where
  -- what may be put, once it was claimed
  pub record MayPut (t : TableId) (k : Known E) (e : E) : Type 0 where
    pub table : k.table ≡ t
    pub mine : seat e ≡ k.number
    pub claimed : has k.claims (turn e) ≡ true
    pub unput : has (harts_of turn seat k.own) (turn e) ≡ false

  pub may_put : (t : TableId) (harts : ℕ) (k l : Known E) (n : ℕ) (e : E) → IsHonest turn seat t harts k → has k.claims n ≡ false → l ≡ record k { claims = k.claims ++ n ∷ [] } → turn e ≡ n → seat e ≡ k.number → MayPut t l e
  may_put t harts k l n e honest new claims is mine = subst (λ m. MayPut t m e) (sym claims) record {
    table = honest.table;
    mine = mine;
    claimed = subst (λ (m : ℕ). has (k.claims ++ n ∷ []) m ≡ true) (sym is) (has_last k.claims n);
    unput = subst (λ (m : ℕ). has (harts_of turn seat k.own) m ≡ false) (sym is) (honest.own n new);
  }

  lacks_first : (xs : List ℕ) (n m : ℕ) → has (xs ++ n ∷ []) m ≡ false → has xs m ≡ false
  lacks_first xs n m h = lacks_from xs m (λ is. never (has (xs ++ n ∷ []) m) (has_left xs (n ∷ []) m is) h)

  -- a claim that is dropped leaves the seat honest
  pub honest_claim : (t : TableId) (harts : ℕ) (k l : Known E) (n : ℕ) → IsHonest turn seat t harts k → l ≡ record k { claims = k.claims ++ n ∷ [] } → IsHonest turn seat t harts l
  honest_claim t harts k l n honest claims = subst (IsHonest turn seat t harts) (sym claims) record {
    table = honest.table;
    harts_are = honest.harts_are;
    own = λ m lacks. honest.own m (lacks_first k.claims n m lacks);
  }

  pub honest_put : (right : E → Type 0) (t : TableId) (harts : ℕ) (k l m : Known E) (n : ℕ) (e : E) → IsHonest turn seat t harts k → l ≡ record k { claims = k.claims ++ n ∷ [] } → turn e ≡ n → Puts turn seat right l e m → IsHonest turn seat t harts m
  honest_put right t harts k l m n e honest claims is puts =
      let r = puts.rest in
      let h = honest_claim t harts k l n honest claims in
      let same_claims : m.claims ≡ l.claims = r.3 in
      let claimed : has l.claims (turn e) ≡ true =
      subst (λ (z : Known E). has z.claims (turn e) ≡ true) (sym claims) (subst (λ (q : ℕ). has (k.claims ++ n ∷ []) q ≡ true) (sym is) (has_last k.claims n)) in
      record {
        table = r.0 ∙ h.table;
        harts_are = r.2 ∙ h.harts_are;
        own = λ q lacks.
            let lacks' : has l.claims q ≡ false = sym (ap (λ (cs : List ℕ). has cs q) same_claims) ∙ lacks in
            subst (λ (es : List E). has (harts_of turn seat es) q ≡ false) (sym puts.own)
            (subst (λ (ns : List ℕ). has ns q ≡ false) (sym (map-append turn l.own (e ∷ [])))
            (lacks_snoc (harts_of turn seat l.own) (turn e) q (h.own q lacks') (λ same. never (has l.claims q) (subst (λ (z : ℕ). has l.claims z ≡ true) (sym same) claimed) lacks')));
      }

  pub whole : (right : E → Type 0) (round harts : ℕ) (es : List E) → IsRound turn seat right round es → length es ≡ harts → IsWhole turn seat right round harts es
  whole right round harts es r long = record {
    count = long;
    round_is = r;
    once = λ h lt.
        let within : Each (Between (first_turn round) harts) (harts_of turn seat es) =
        each_mapped turn (Between (first_turn round) harts) es (each_map (λ e. (first_turn round ≤ turn e) × (turn e < turn_of round (length es))) (λ e. Between (first_turn round) harts (turn e)) es
        (λ e b. (b.0, let u = b.1 in omega arith)) r.within) in
        times_once (harts_of turn seat es) (turn_of round h) r.apart
        (all_between (harts_of turn seat es) (first_turn round) harts (turn_of round h) r.apart within (length_harts turn seat es ∙ long) (omega arith) (omega arith));
  }

module _ {E : Type 0} (turn seat : E → ℕ) where
  fresh_from : (t : TableId) (harts a n k : ℕ) (d : Known E) → k < length (map (known {E = E} t) (newcomers_from harts a n)) → IsHonest turn seat t harts (slice_index_or (map (known t) (newcomers_from harts a n)) k d)
  fresh_from t harts a zero k d lt = absurd (omega arith)
  fresh_from t harts a (suc n) zero d lt = record { table = refl; harts_are = refl; own = λ m lacks. refl }
  fresh_from t harts a (suc n) (suc k) d lt = fresh_from t harts (suc a) n k d (omega arith)

  -- the first seat of a new book ends its rounds
  pub first_calls : (t : TableId) (harts n book_harts : ℕ) (ks : List (Known E)) (k : Known E) → book_harts ≡ harts → ks ≡ fresh_seats t harts n → 0 < n → k ≡ slice_index_or ks 0 k → IsCalling turn seat t book_harts k
  first_calls t harts zero book_harts ks k same is lt at = absurd (omega arith)
  first_calls t harts (suc n) book_harts ks k same is lt at = subst (λ (h : ℕ). IsCalling turn seat t h k) (sym same) (subst (IsCalling turn seat t harts) (sym (at ∙ ap (λ (l : List (Known E)). slice_index_or l 0 k) is))
      record { honest = record { table = refl; harts_are = refl; own = λ m lacks. refl }; number = refl; seen = refl })

  -- and the others are honest
  pub others_honest : (t : TableId) (harts n book_harts : ℕ) (ks ls : List (Known E)) → book_harts ≡ harts → ks ≡ fresh_seats t harts n → 0 < n → ls ≡ remove ks 0 → (k : ℕ) (d : Known E) → k < length ls → IsHonest turn seat t book_harts (slice_index_or ls k d)
  others_honest t harts zero book_harts ks ls same is lt left = absurd (omega arith)
  others_honest t harts (suc n) book_harts ks ls same is lt left = subst (λ (h : ℕ). (k : ℕ) (d : Known E) → k < length ls → IsHonest turn seat t h (slice_index_or ls k d)) (sym same)
      (subst (λ (l : List (Known E)). (k : ℕ) (d : Known E) → k < length l → IsHonest turn seat t harts (slice_index_or l k d)) (sym (left ∙ ap (λ (l : List (Known E)). remove l 0) is)) (fresh_from t harts 1 n))

module _ {E : Type 0} where
  pub kept_claim : (first k l : Known E) (n : ℕ) → KeepsRound first k → l ≡ record k { claims = k.claims ++ n ∷ [] } → KeepsRound first l
  kept_claim first k l n kept is = record {
    number = ap (λ (z : Known E). z.number) is ∙ kept.number;
    round = ap (λ (z : Known E). z.round) is ∙ kept.round;
    gone = ap (λ (z : Known E). z.gone) is ∙ kept.gone;
  }

  pub kept_put : (turn seat : E → ℕ) (right : E → Type 0) (first k l : Known E) (e : E) → KeepsRound first k → Puts turn seat right k e l → KeepsRound first l
  kept_put turn seat right first k l e kept puts = let r = puts.rest in record { number = r.1 ∙ kept.number; round = r.4 ∙ kept.round; gone = r.5 ∙ kept.gone }
