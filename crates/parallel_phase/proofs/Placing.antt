-- What the rounds of a history left, moved to the places of their harts one by one.
use Rattle.std.proofs.Common.{◌≡◌, ℕ, zero, suc, ◌+◌, ◌<◌, ◌≤◌, ◌⊎◌, inl, inr, ⊎_elim, true, false, List, [], ◌∷◌, ◌++◌, length, map, set, slice_get, slice_index_or, Some, refl, sym, ap, ◌∙◌, subst, arith}
use Rattle.std.proofs.lemmas.List.{length-set}
use mathlib.Core.List.{map-append}
use mathlib.Core.Logic.{dite}
use native.Mathlib.Decide.{ℕ_discrete}
use Rattle.hart_rounds.specs.declared.hart_end.HartEnd.{HartEnd}
use Rattle.hart_rounds.specs.Ends.{round_at}
use Rattle.run_book.specs.Lists.{Each, has}
use Rattle.run_book.specs.Turns.{first_turn, turn_of}
use Rattle.run_book.proofs.Lists.{each_left, each_map, each_right, has_from_times, has_snoc, never}
use Rattle.parallel_phase.specs.declared.claimed_round.HartRound.{HartRound}
use Rattle.parallel_phase.specs.declared.run_starts.RunStarts.{Ghosts}
use Rattle.parallel_phase.specs.Rounds.{IsWholeHistory, IsWholeRound, end_in, ticket_of, turn_in}

-- what was written stands there, and the rest stays
written : {A : Type 0} (xs : List A) (k : ℕ) (x : A) → k < length xs → slice_get (set xs k x) k ≡ Some x
written [] k x lt = absurd (omega arith)
written (z ∷ xs) zero x lt = refl
written (z ∷ xs) (suc k) x lt = written xs k x (omega arith)

kept : {A : Type 0} (xs : List A) (k h : ℕ) (x : A) → (h ≡ k → ⊥) → slice_get (set xs k x) h ≡ slice_get xs h
kept [] k h x ne = refl
kept (z ∷ xs) zero zero x ne = absurd (ne refl)
kept (z ∷ xs) zero (suc h) x ne = refl
kept (z ∷ xs) (suc k) zero x ne = refl
kept (z ∷ xs) (suc k) (suc h) x ne = kept xs k h x (λ e. ne (ap suc e))

module _ {b : _} {g : Ghosts b} where
  -- each hart of the round has an entry left, or stands in its place
  pub record Placed (round n : ℕ) (es : List (HartRound b g)) (os : List HartEnd) : Type 0 where
    pub within : Each (λ r. (first_turn round ≤ turn_in r) × (turn_in r < turn_of round n)) es
    pub count : length os ≡ n
    pub either : (h : ℕ) → h < n → (has (map turn_in es) (turn_of round h) ≡ true) ⊎ (slice_get os h ≡ round_at (g.starts round) h)

  pub placed_none : (round n : ℕ) (es : List (HartRound b g)) (os : List HartEnd) → IsWholeRound round n es → length os ≡ n → Placed round n es os
  placed_none round n es os whole long = record {
    within = each_map (λ r. (first_turn round ≤ turn_in r) × (turn_in r < turn_of round (length es))) (λ r. (first_turn round ≤ turn_in r) × (turn_in r < turn_of round n)) es
        (λ r w. (w.0, let u = w.1 in let c = whole.count in omega arith)) whole.round_is.within;
    count = long;
    either = λ h lt. inl (has_from_times (map turn_in es) (turn_of round h) (whole.once h lt));
  }

  -- an entry of the round, of a hart that there is
  pub record Here (round n : ℕ) (r : HartRound b g) : Type 0 where
    pub same : (ticket_of r).round ≡ round
    pub low : (ticket_of r).hart < n

  pub is_here : (round n : ℕ) (es fs : List (HartRound b g)) (os : List HartEnd) (r : HartRound b g) → Placed round n es os → es ≡ fs ++ r ∷ [] → (ticket_of r).hart < 4294967296 → n ≤ 64 → Here round n r
  is_here round n es fs os r placed is small few =
      let w = (each_right (λ q. (first_turn round ≤ turn_in q) × (turn_in q < turn_of round n)) fs (r ∷ []) (subst (Each (λ q. (first_turn round ≤ turn_in q) × (turn_in q < turn_of round n))) is placed.within)).0 in
      let l = w.0 in
      let u = w.1 in
      record { same = omega arith; low = omega arith }

  pub placed_one : (round n : ℕ) (es fs : List (HartRound b g)) (os ps : List HartEnd) (r : HartRound b g) → Placed round n es os → es ≡ fs ++ r ∷ [] → Here round n r → ps ≡ set os (ticket_of r).hart (end_in r) → Placed round n fs ps
  placed_one round n es fs os ps r placed is here put =
      let k = (ticket_of r).hart in
      let low = here.low in
      let count = placed.count in
      record {
        within = each_left (λ q. (first_turn round ≤ turn_in q) × (turn_in q < turn_of round n)) fs (r ∷ []) (subst (Each (λ q. (first_turn round ≤ turn_in q) × (turn_in q < turn_of round n))) is placed.within);
        count = ap (λ (xs : List HartEnd). length xs) put ∙ (length-set os k (end_in r) ∙ count);
        either = λ h lt. dite (ℕ_discrete h k)
            (λ e. inr (ap (λ (xs : List HartEnd). slice_get xs h) put ∙ (ap (slice_get (set os k (end_in r))) e ∙ (written os k (end_in r) (omega arith)
            ∙ (sym r.content ∙ (ap (λ (m : ℕ). round_at (g.starts m) k) here.same ∙ ap (round_at (g.starts round)) (sym e)))))))
            (λ ne. ⊎_elim
            (λ (left : has (map turn_in es) (turn_of round h) ≡ true). ⊎_elim
            (λ (there : has (map turn_in fs) (turn_of round h) ≡ true). inl there)
            (λ (e : turn_of round h ≡ turn_in r). let s = here.same in absurd (ne (omega arith)))
            (has_snoc (map turn_in fs) (turn_in r) (turn_of round h) (sym (ap (λ (ns : List ℕ). has ns (turn_of round h)) (ap (map turn_in) is ∙ map-append turn_in fs (r ∷ []))) ∙ left)))
            (λ (stands : slice_get os h ≡ round_at (g.starts round) h). inr (ap (λ (xs : List HartEnd). slice_get xs h) put ∙ (kept os k h (end_in r) ne ∙ stands)))
            (placed.either h lt));
      }

  lacks_none : (es : List (HartRound b g)) (n : ℕ) → length es ≡ 0 → has (map turn_in es) n ≡ false
  lacks_none [] n none = refl
  lacks_none (e ∷ es) n none = absurd (omega arith)

  -- once no entry is left, each hart's round stands in its place
  pub all_placed : (round n : ℕ) (es : List (HartRound b g)) (os : List HartEnd) → Placed round n es os → length es ≡ 0 → n ≡ length (g.starts round).harts → IsWholeHistory (g.starts round) os
  all_placed round n es os placed none many = record {
    count = placed.count ∙ many;
    rounds = λ h lt. ⊎_elim
        (λ (left : has (map turn_in es) (turn_of round h) ≡ true). absurd (never (has (map turn_in es) (turn_of round h)) left (lacks_none es (turn_of round h) none)))
        (λ stands. stands)
        (placed.either h (omega arith));
  }

  -- the round that a history is of, and how many harts it has
  pub whole_at : (k m h n : ℕ) (es : List (HartRound b g)) → k ≡ m → h ≡ n → IsWholeRound k h es → IsWholeRound m n es
  whole_at k m h n es same many whole = subst (λ (i : ℕ). IsWholeRound m i es) many (subst (λ (i : ℕ). IsWholeRound i h es) same whole)

-- a fact of each element of a list, of the same list
pub of_each : {A : Type 0} (P : A → Type 0) (xs ys : List A) → xs ≡ ys → ((k : ℕ) (d : A) → k < length ys → P (slice_index_or ys k d)) → (k : ℕ) (d : A) → k < length xs → P (slice_index_or xs k d)
of_each {A} P xs ys same each = subst (λ (l : List A). (k : ℕ) (d : A) → k < length l → P (slice_index_or l k d)) (sym same) each
