-- What is found on the way says how the run ends.
use Rattle.std.proofs.Common.{◌≡◌, ℕ, ◌+◌, ◌-◌, ◌*◌, ◌/◌, ◌%◌, ◌≤◌, ◌||◌, not, is_some, Bool, true, false, List, [], ◌∷◌, All, map, refl, sym, ◌∙◌, ap, subst, arith}
use Rattle.std.specs.List.{list_any}
use Rattle.std.proofs.lemmas.Bool.{false≢true}
use Rattle.std.proofs.lemmas.List.Elements.{All-cons}
use Rattle.std.proofs.Math.Nat.{mod-add-div'}
use Rattle.pages.specs.declared.access.Range.{Range}
use Rattle.round_schedule.specs.Schedule.{State, run_of}
use Rattle.round_schedule.proofs.Stopped.{stopped_runs_pass}
use Rattle.hart_step.specs.declared.hart.Hart.{Hart}
use Rattle.hart_step.specs.Console.{ConsoleState}
use Rattle.hart_step.specs.Words.{words_of}
use Rattle.serial_phase.specs.Decided.{comes_back_within, goes_round, is_back_in}
use Rattle.serial_phase.specs.Forgetting.{asks_number, uncounted}
use Rattle.serial_phase.specs.Returning.{Alike, ComesBack}
use Rattle.serial_phase.proofs.Decided.{back_found, earlier_goes_round}
use Rattle.serial_phase.proofs.Forgetting.{counts_are_forgotten}
use Rattle.serial_phase.proofs.Returning.{later_comes_back, run_sum, runs_go_round}

-- ---- harts that run

abbrev pub any_runs : List Hart → Bool
any_runs hs = list_any (λ (h : Hart). not (is_some h.stop)) hs

head_is : {X : Type 0} (x y : X) (xs ys : List X) → x ∷ xs ≡ y ∷ ys → (x ≡ y) × (xs ≡ ys)
head_is x y xs ys e = (cc, cc)

-- harts that are the same but for their counts
pub same_run : (hs gs : List Hart) → map uncounted hs ≡ map uncounted gs → any_runs hs ≡ any_runs gs
same_run [] [] e = refl
same_run [] (g ∷ gs) e = cc
same_run (h ∷ hs) [] e = cc
same_run (h ∷ hs) (g ∷ gs) e =
    let d = head_is (uncounted h) (uncounted g) (map uncounted hs) (map uncounted gs) e in
    ap (λ (x : Hart). not (is_some x.stop) || any_runs hs) d.0 ∙ ap (λ (b : Bool). not (is_some g.stop) || b) (same_run hs gs d.1)

neither : (a b : Bool) → (not a || b) ≡ false → (a ≡ true) × (b ≡ false)
neither true b e = (refl, e)
neither false b e = absurd (false≢true (sym e))

all_stopped : (hs : List Hart) → any_runs hs ≡ false → All (λ (h : Hart). is_some h.stop ≡ true) hs
all_stopped [] e = λ k d l. absurd (omega (arith, l))
all_stopped (h ∷ hs) e =
    let d = neither (is_some h.stop) (any_runs hs) e in
    All-cons (λ (g : Hart). is_some g.stop ≡ true) h hs d.0 (all_stopped hs d.1)

module _ (code : List Range) (budget : ℕ) (quotas : ℕ → List ℕ) where
  abbrev there : ℕ → State Hart ConsoleState → State Hart ConsoleState
  there n s = run_of (words_of code) budget quotas n s

  abbrev pub Back : ℕ → State Hart ConsoleState → Type 0
  Back p s = ComesBack (words_of code) uncounted (asks_number code) budget quotas p s

  pub sum : (m n : ℕ) (s : State Hart ConsoleState) → there (m + n) s ≡ there n (there m s)
  sum m n s = run_sum (words_of code) uncounted (asks_number code) (counts_are_forgotten code) budget quotas m n s

  -- once all harts have stopped none runs
  pub none_runs : (n : ℕ) (s : State Hart ConsoleState) → any_runs s.harts ≡ false → any_runs (there n s).harts ≡ false
  none_runs n s e =
      ap (λ (t : State Hart ConsoleState). any_runs t.harts) (stopped_runs_pass Hart ConsoleState (words_of code) budget quotas n s (all_stopped s.harts e)) ∙ e

  -- back after p rounds, it needs only what is left of whole times p to be like it is after any number of rounds
  pub ends_alike : (p n : ℕ) (s : State Hart ConsoleState) → Back p s → p ≤ n → Alike uncounted (there ((n - p) % p) (there p s)) (there n s)
  ends_alike p n s b l =
      let r : ℕ = (n - p) % p in
      let k : ℕ = (n - p) / p in
      let further : Back p (there p s) =
      later_comes_back Hart Hart ConsoleState (words_of code) uncounted (asks_number code) (counts_are_forgotten code) budget quotas p s b p in
      let whole : p + (k * p + r) ≡ n = omega (arith, mod-add-div' (n - p) p, l) in
      subst (λ (t : State Hart ConsoleState). Alike uncounted (there r (there p s)) t) (sym (sum p (k * p + r) s) ∙ ap (λ (m : ℕ). there m s) whole)
      (runs_go_round Hart Hart ConsoleState (words_of code) uncounted (asks_number code) (counts_are_forgotten code) budget quotas p (there p s) further k r)

  module _ (rows : ℕ) (again : (p x : ℕ) → p % rows ≡ 0 → quotas (x + p) ≡ quotas x) where
    pub found : (p : ℕ) (s : State Hart ConsoleState) → 1 ≤ p → is_back_in code budget quotas rows s p ≡ true → Back p s
    found p s l e = back_found code budget quotas rows again s p l e

    pub is_found : (rounds i p : ℕ) (s : State Hart ConsoleState) → i ≤ rounds / 2 → 1 ≤ p → p ≤ rounds - rounds / 2 →
        is_back_in code budget quotas rows (there i s) p ≡ true → goes_round code budget quotas rows s rounds ≡ true
    is_found rounds i p s l some few e = earlier_goes_round code budget quotas rows s rounds i p again l some few e

    pub is_not_found : (rounds : ℕ) (s : State Hart ConsoleState) → comes_back_within code budget quotas rows (there (rounds / 2) s) (rounds - rounds / 2) ≡ false →
        goes_round code budget quotas rows s rounds ≡ false
    unfolding goes_round
    is_not_found rounds s e = e
