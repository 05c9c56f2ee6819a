-- What is found on the way says whether the run goes round, and how it ends.
use Rattle.std.proofs.Common.{◌≡◌, ℕ, ◌+◌, ◌-◌, ◌*◌, ◌/◌, ◌%◌, ◌≤◌, ◌&&◌, Bool, true, false, is_some, List, length, map, refl, sym, ◌∙◌, ap, subst, arith}
use Rattle.std.proofs.lemmas.Bool.{false≢true}
use Rattle.std.proofs.Math.Nat.{div-le_self}
use Rattle.round_schedule.specs.Schedule.{State, run_of}
use Rattle.round_planner.specs.Quotas.{quotas_of}
use Rattle.hart_step.specs.declared.hart.Hart.{Hart}
use Rattle.hart_step.specs.Console.{ConsoleState}
use Rattle.hart_step.specs.Words.{words_of}
use Rattle.machine.specs.Machine.{Running, after_rounds}
use Rattle.machine.specs.Untraced.{IsUntraced, Untraced}
use Rattle.serial_phase.specs.Decided.{comes_back_within}
use Rattle.serial_phase.specs.Forgetting.{asks_number, uncounted}
use Rattle.serial_phase.specs.Returning.{Alike}
use Rattle.serial_phase.proofs.Decided.{going_round_comes_back}
use Rattle.serial_phase.proofs.Forgetting.{counts_are_forgotten}
use Rattle.serial_phase.proofs.Returning.{runs_come_back}
use Rattle.hunter.specs.Finding.{IsLike, is_back_after, is_back_within, is_round, loops_in, some_run}
use Rattle.hunter.proofs.Ends.{ends_alike, found, is_found, is_not_found, none_runs, same_run, sum}
use Rattle.hunter.proofs.Turns.{again}

no_and : (b : Bool) → false ≡ (b && false)
no_and true = refl
no_and false = refl

yes_and : (b : Bool) → b ≡ (b && true)
yes_and true = refl
yes_and false = refl

-- the same m after the same number of rounds
after_same : (m : Running) (i j : ℕ) → i ≡ j → after_rounds i m ≡ after_rounds j m
after_same m i j e = ap (λ (n : ℕ). after_rounds n m) e

abbrev after_state : ℕ → Running → State Hart ConsoleState
after_state n m = (after_rounds n m).state

state_sum : (i n k : ℕ) (m : Running) → i + n ≡ k → after_state k m ≡ after_state n (after_rounds i m)
state_sum i n k m e = ap (λ (j : ℕ). after_state j m) (sym e) ∙ sum m.code m.plan.budget (quotas_of m.plan) i n m.state

-- ---- no hart runs

pub none_loops : (i rounds : ℕ) (m : Running) (u : Untraced) → IsUntraced (after_rounds i m) u → i ≤ rounds → some_run u.harts ≡ false → false ≡ loops_in rounds m
none_loops i rounds m u is l e =
    let last : some_run (after_state rounds m).harts ≡ false =
    ap (λ (s : State Hart ConsoleState). some_run s.harts) (state_sum i (rounds - i) rounds m (omega (arith, l)))
    ∙ none_runs m.code m.plan.budget (quotas_of m.plan) (rounds - i) (after_state i m) (ap some_run (sym is.harts) ∙ e) in
    ap (λ (b : Bool). b && is_round rounds m) (sym last)

-- ---- it goes round

pub round_here : (rounds i p : ℕ) (m : Running) → i ≤ rounds / 2 → 1 ≤ p → p ≤ rounds - rounds / 2 → is_back_after p (after_rounds i m) ≡ true → is_round rounds m ≡ true
round_here rounds i p m l some few e =
    is_found m.code m.plan.budget (quotas_of m.plan) (length m.plan.rows) (λ q x d. again m.plan q x d) rounds i p m.state l some few e

-- it is like after all rounds once only the rest of them is done
pub like_end : (rounds i p r : ℕ) (m : Running) (v : Untraced) → i + p ≤ rounds → 1 ≤ p → r ≡ (rounds - i - p) % p → is_back_after p (after_rounds i m) ≡ true →
    IsUntraced (after_rounds (i + p + r) m) v → IsLike (after_rounds rounds m) v
like_end rounds i p r m v l some is e there =
    let s : State Hart ConsoleState = after_state i m in
    let back = found m.code m.plan.budget (quotas_of m.plan) (length m.plan.rows) (λ q x d. again m.plan q x d) p s some e in
    let alike : Alike uncounted (after_state ((rounds - i - p) % p) (after_rounds p (after_rounds i m))) (after_state (rounds - i) (after_rounds i m)) =
    ends_alike m.code m.plan.budget (quotas_of m.plan) p (rounds - i) s back (omega (arith, l)) in
    let first : after_state (i + p + r) m ≡ after_state ((rounds - i - p) % p) (after_rounds p (after_rounds i m)) =
    state_sum (i + p) r (i + p + r) m refl
    ∙ ap (λ (t : State Hart ConsoleState). run_of (words_of m.code) m.plan.budget (quotas_of m.plan) r t) (state_sum i p (i + p) m refl)
    ∙ ap (λ (n : ℕ). after_state n (after_rounds p (after_rounds i m))) is in
    let last : after_state rounds m ≡ after_state (rounds - i) (after_rounds i m) = state_sum i (rounds - i) rounds m (omega (arith, l)) in
    record {
      there = after_rounds (i + p + r) m;
      is = there;
      alike = subst (λ (t : State Hart ConsoleState). Alike uncounted t (after_state rounds m)) (sym first)
          (subst (λ (t : State Hart ConsoleState). Alike uncounted (after_state ((rounds - i - p) % p) (after_rounds p (after_rounds i m))) t) (sym last) alike);
    }

-- then whether a hart loops is whether one runs
pub round_loops : (rounds : ℕ) (m : Running) (v : Untraced) → is_round rounds m ≡ true → IsLike (after_rounds rounds m) v → some_run v.harts ≡ loops_in rounds m
round_loops rounds m v e like =
    ap some_run like.is.harts ∙ same_run like.there.state.harts (after_state rounds m).harts like.alike.harts
    ∙ yes_and (some_run (after_state rounds m).harts) ∙ ap (λ (b : Bool). some_run (after_state rounds m).harts && b) (sym e)

-- ---- it doesn't

pub not_round_here : (rounds i n : ℕ) (m : Running) → i ≡ rounds / 2 → n ≡ rounds - rounds / 2 → is_back_within n (after_rounds i m) ≡ false → is_round rounds m ≡ false
not_round_here rounds i n m e f h =
    is_not_found m.code m.plan.budget (quotas_of m.plan) (length m.plan.rows) (λ q x d. again m.plan q x d) rounds m.state
    (subst (λ (k : ℕ). is_back_within (rounds - rounds / 2) (after_rounds k m) ≡ false) e (subst (λ (k : ℕ). is_back_within k (after_rounds i m) ≡ false) f h))

pub round_of_none : (rounds : ℕ) (m : Running) → rounds ≡ 0 → is_round rounds m ≡ false
unfolding comes_back_within
round_of_none rounds m e = subst (λ (n : ℕ). is_round n m ≡ false) (sym e) (is_not_found m.code m.plan.budget (quotas_of m.plan) (length m.plan.rows) (λ q x d. again m.plan q x d) 0 m.state refl)

pub not_loops : (rounds : ℕ) (m : Running) → is_round rounds m ≡ false → false ≡ loops_in rounds m
not_loops rounds m e = no_and (some_run (after_state rounds m).harts) ∙ ap (λ (b : Bool). some_run (after_state rounds m).harts && b) (sym e)

-- ---- it is as it is

pub like_itself : (m : Running) (u : Untraced) → IsUntraced m u → IsLike m u
like_itself m u is = record { there = m; is = is; alike = record { harts = refl; bytes = refl; console = refl; holds = λ h l. refl } }

-- ---- for ever

pub never_ends : (n k : ℕ) (m : Running) → is_round n m ≡ true →
    map (λ (h : Hart). is_some h.stop) (after_rounds (n + k) m).state.harts ≡ map (λ (h : Hart). is_some h.stop) (after_rounds n m).state.harts
never_ends n k m e =
    let half = after_rounds (n / 2) m in
    let b = going_round_comes_back m.code m.plan.budget (quotas_of m.plan) (length m.plan.rows) m.state n (λ q x d. again m.plan q x d) e in
    let at = λ (j : ℕ). runs_come_back Hart Hart ConsoleState (words_of m.code) uncounted (asks_number m.code) (counts_are_forgotten m.code) m.plan.budget (quotas_of m.plan) b.0 half.state b.2 j in
    ap stops_in (state_sum (n / 2) (n + k - n / 2) (n + k) m (omega (arith, div-le_self n 2)))
    ∙ at (n + k - n / 2) ∙ sym (at (n - n / 2))
    ∙ ap stops_in (sym (state_sum (n / 2) (n - n / 2) n m (omega (arith, div-le_self n 2))))
  where
    stops_in : State Hart ConsoleState → List Bool
    stops_in s = map (λ (h : Hart). is_some h.stop) s.harts
