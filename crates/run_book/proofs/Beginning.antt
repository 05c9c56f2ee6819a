-- A new book keeps the rule: all seats in one view, nothing claimed and nothing put.
use Rattle.std.proofs.Common.{◌≡◌, ℕ, zero, suc, ◌+◌, ◌^◌, ◌<◌, ◌≤◌, List, [], ◌∷◌, refl, sym, subst, arith, true≢false}
use mathlib.Core.Option.{some, some-injective, some-ne-none}
use mathlib.Core.Logic.{dite}
use native.Mathlib.Decide.{ℕ_discrete}
use lib.ListN.{get_elem?}
use Rattle.atomic_table.specs.Table.{opening}
use Rattle.run_book.specs.declared.sitter.Size.{Size}
use Rattle.run_book.specs.Lists.{Each}
use Rattle.run_book.specs.Rule.{Fits, BookHolds, View}
use Rattle.run_book.specs.Sitters.{held, newcomer, newcomers, newcomers_from, numbered, one, sum_in}
use Rattle.run_book.proofs.Sums.{numbered_at, numbered_other}

module _ (E : Type 0) where
  all_new : (harts a n : ℕ) → sum_in one (newcomers_from {E = E} harts a n) ≡ n
  all_new harts a zero = refl
  all_new harts a (suc n) = let r = all_new harts (suc a) n in omega arith

  none_held : (harts a n : ℕ) → sum_in held (newcomers_from {E = E} harts a n) ≡ 0
  none_held harts a zero = refl
  none_held harts a (suc n) = let r = none_held harts (suc a) n in omega arith

  none_before : (harts a n k : ℕ) → k < a → sum_in (numbered k) (newcomers_from {E = E} harts a n) ≡ 0
  none_before harts a zero k lt = refl
  none_before harts a (suc n) k lt =
      let r = none_before harts (suc a) n k (omega arith) in
      let o = numbered_other k (newcomer {E = E} harts a) (λ e. omega arith) in
      omega arith

  one_numbered : (harts a n k : ℕ) → a ≤ k → k < a + n → sum_in (numbered k) (newcomers_from {E = E} harts a n) ≡ 1
  one_numbered harts a zero k le lt = absurd (omega arith)
  one_numbered harts a (suc n) k le lt = dite (ℕ_discrete a k)
      (λ e. let r = none_before harts (suc a) n k (omega arith) in let o = numbered_at k (newcomer {E = E} harts a) e in omega arith)
      (λ ne. let r = one_numbered harts (suc a) n k (omega arith) (omega arith) in let o = numbered_other k (newcomer {E = E} harts a) ne in omega arith)

module _ {S E : Type 0} (items : S → List E) (room : S → ℕ) (hart seat : E → ℕ) (size : Size) where
  new_fits : (a n : ℕ) → a + n ≡ size.seats → Each (Fits items room hart seat size [] [] [] [] 1 0 0) (newcomers_from size.harts a n)
  new_fits a zero e = tt
  new_fits a (suc n) e = (
    record {
      harts_are = refl;
      below = omega arith;
      claimed = λ h is. absurd (true≢false (sym is));
      knows = λ h o. absurd (some-ne-none a (sym o));
      seen_is = ([], refl);
      own_is = refl;
      ends = λ z. (refl, refl);
      holds = λ h. absurd (true≢false (sym h));
    },
    new_fits (suc a) n (omega arith),
  )

  first_fits : (vs : View E) (j : ℕ) (v : View E) → Each (Fits items room hart seat size [] [] [] [] 1 0 0) vs → get_elem? (vs ∷ []) j ≡ some v → Each (Fits items room hart seat size [] [] [] [] 1 0 0) v
  first_fits vs zero v e at = subst (Each (Fits items room hart seat size [] [] [] [] 1 0 0)) (some-injective vs v at) e
  first_fits vs (suc j) v e at = absurd (some-ne-none v (sym at))

  pub opens : size.harts < 2 ^ 32 → size.seats < 2 ^ 32 → (v : S) → items v ≡ [] → size.harts ≤ room v
      → BookHolds items room hart seat size (opening (1 ∷ 0 ∷ []) (v ∷ []) (newcomers size.harts size.seats))
  opens harts seats v empty wide = let h = none_held E size.harts 0 size.seats in let a = all_new E size.harts 0 size.seats in record {
    owners = [];
    log = [];
    gone = [];
    page = [];
    who = 0;
    round = 0;
    wide = refl;
    counts = refl;
    begun = omega arith;
    low = omega arith;
    small = (harts, seats, omega arith);
    log_is = refl;
    taken = omega arith;
    entries = tt;
    whose = tt;
    apart = tt;
    here = tt;
    settled = λ u k lt. absurd (omega arith);
    free = λ z. (refl, omega arith, (v, refl, empty, wide));
    locked = λ z. absurd (omega arith);
    seats = λ k b. let o = one_numbered E size.harts 0 size.seats k (omega arith) (omega arith) in omega arith;
    all = omega arith;
    fits = λ j u at. first_fits (newcomers size.harts size.seats) j u (new_fits 0 size.seats (omega arith)) at;
  }
