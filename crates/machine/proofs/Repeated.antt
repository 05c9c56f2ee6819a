-- Rounds after rounds.
use Rattle.std.proofs.Common.{◌≡◌, ℕ, zero, suc, ◌+◌, ◌≤◌, if◌then◌else◌, Bool, true, false, is_some, List, [], ◌∷◌, All, length, refl, sym, ap, ◌∙◌, arith}
use Rattle.std.proofs.lemmas.List.Elements.{All-cons}
use Rattle.round_schedule.specs.Schedule.{State, Words, round_of, run_of}
use Rattle.round_planner.specs.Quotas.{Planned, quotas_of}
use Rattle.pages.specs.declared.access.Range.{Range}
use Rattle.hart_step.specs.Words.{words_of}
use Rattle.hart_step.specs.declared.hart.Hart.{Hart}
use Rattle.hart_step.specs.Console.{ConsoleState}
use Rattle.machine.specs.Machine.{Running, after_round, after_rounds, count_stopped}
use Rattle.round_schedule.proofs.Stopped.{stopped_runs_pass}

abbrev running : State Hart ConsoleState → List Range → Planned → List ℕ → Running
running s rs plan bs = record { state = s; code = rs; plan = plan; opening = bs }

pub no_rounds : (m : Running) → m ≡ after_rounds 0 m
unfolding run_of
no_rounds m = refl

one_more : (W : Words Hart ConsoleState) (budget : ℕ) (quotas : ℕ → List ℕ) (n : ℕ) (s : State Hart ConsoleState) → round_of W budget quotas (run_of W budget quotas n s) ≡ run_of W budget quotas (suc n) s
unfolding run_of
one_more W budget quotas zero s = refl
one_more W budget quotas (suc n) s = one_more W budget quotas n (round_of W budget quotas s)

pub next_round : (n : ℕ) (m : Running) → after_round (after_rounds n m) ≡ after_rounds (n + 1) m
next_round n m =
    ap (λ (s : State Hart ConsoleState). running s m.code m.plan m.opening) (one_more (words_of m.code) m.plan.budget (quotas_of m.plan) n m.state)
    ∙ ap (λ (k : ℕ). after_rounds k m) (omega arith)

run_more : (W : Words Hart ConsoleState) (budget : ℕ) (quotas : ℕ → List ℕ) (j k : ℕ) (s : State Hart ConsoleState) → run_of W budget quotas k (run_of W budget quotas j s) ≡ run_of W budget quotas (j + k) s
unfolding run_of
run_more W budget quotas zero k s = let same : k ≡ zero + k = omega arith in ap (λ (n : ℕ). run_of W budget quotas n s) same
run_more W budget quotas (suc j) k s = run_more W budget quotas j k (round_of W budget quotas s) ∙ ap (λ (n : ℕ). run_of W budget quotas n s) more
  where
    more : suc (j + k) ≡ suc j + k
    more = omega arith

-- after j rounds, k more
pub more_rounds : (j k : ℕ) (m : Running) → after_rounds k (after_rounds j m) ≡ after_rounds (j + k) m
more_rounds j k m = ap (λ (s : State Hart ConsoleState). running s m.code m.plan m.opening) (run_more (words_of m.code) m.plan.budget (quotas_of m.plan) j k m.state)

-- ---- once all harts have stopped

few_stopped : (hs : List Hart) → count_stopped hs ≤ length hs
few_stopped [] = omega arith
few_stopped (h ∷ hs) = one (is_some h.stop) (few_stopped hs)
  where
    one : (b : Bool) → count_stopped hs ≤ length hs → (if b then 1 else 0) + count_stopped hs ≤ suc (length hs)
    one true l = omega (arith, l)
    one false l = omega (arith, l)

first_stopped : (b : Bool) (n k : ℕ) → n ≤ k → (if b then 1 else 0) + n ≡ suc k → (b ≡ true) × (n ≡ k)
first_stopped true n k l e = (refl, omega (arith, e))
first_stopped false n k l e = absurd (omega (arith, l, e))

all_stopped : (hs : List Hart) → count_stopped hs ≡ length hs → All (λ (h : Hart). is_some h.stop ≡ true) hs
all_stopped [] e = λ k d l. absurd (omega (arith, l))
all_stopped (h ∷ hs) e =
    let both = first_stopped (is_some h.stop) (count_stopped hs) (length hs) (few_stopped hs) e in
    All-cons (λ (g : Hart). is_some g.stop ≡ true) h hs both.0 (all_stopped hs both.1)

-- rounds add to the number of rounds alone
pub passed : (n : ℕ) (m : Running) → count_stopped m.state.harts ≡ length m.state.harts → record m { state = record m.state { rounds = m.state.rounds + n } } ≡ after_rounds n m
passed n m e =
    ap (λ (s : State Hart ConsoleState). running s m.code m.plan m.opening)
    (sym (stopped_runs_pass Hart ConsoleState (words_of m.code) m.plan.budget (quotas_of m.plan) n m.state (all_stopped m.state.harts e)))
