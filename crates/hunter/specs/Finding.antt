-- What is found out about a run.
use Rattle.std.specs.Prelude.{◌≡◌, ℕ, ◌+◌, ◌*◌, ◌<◌, ◌≤◌, ◌&&◌, not, is_some, Bool, true, false, List, length, map}
use Rattle.std.specs.List.{list_any}
use Rattle.round_planner.specs.Quotas.{quotas_of}
use Rattle.hart_step.specs.declared.hart.Hart.{Hart}
use Rattle.hart_step.specs.Words.{words_of}
use Rattle.machine.specs.Machine.{Running, after_rounds}
use Rattle.machine.specs.Untraced.{IsUntraced, Untraced}
use Rattle.serial_phase.specs.Asking.{asks_in_run}
use Rattle.serial_phase.specs.Decided.{are_alike, comes_back_within, goes_round, is_back_in}
use Rattle.serial_phase.specs.Forgetting.{asks_number, uncounted}
use Rattle.serial_phase.specs.Returning.{Alike}

-- whether a run of so many rounds from here on is found to go round
abbrev pub is_round : ℕ → Running → Bool
is_round n m = goes_round m.code m.plan.budget (quotas_of m.plan) (length m.plan.rows) m.state n

-- whether some hart runs
abbrev pub some_run : List Hart → Bool
some_run hs = list_any (λ (h : Hart). not (is_some h.stop)) hs

-- whether a hart runs when so many rounds are done, and for ever, since the run is found to go round
abbrev pub loops_in : ℕ → Running → Bool
loops_in n m = some_run (after_rounds n m).state.harts && is_round n m

-- it is the machine of a run without its trace, in which all that later rounds depend on is as it is in this one
pub record IsLike (m : Running) (u : Untraced) : Type 0 where
  pub there : Running
  pub is : IsUntraced there u
  pub alike : Alike uncounted there.state m.state

-- a run that goes round never ends: when its rounds are over, and after any number of rounds more, the same harts have stopped, so each
-- that runs then runs for ever under its plan
abbrev pub RoundRunsNeverEnd : Type 0
RoundRunsNeverEnd =
    (n k : ℕ) (m : Running) → is_round n m ≡ true →
    map (λ (h : Hart). is_some h.stop) (after_rounds (n + k) m).state.harts ≡ map (λ (h : Hart). is_some h.stop) (after_rounds n m).state.harts

-- ---- on the way

-- what is compared of two machines
abbrev pub AreSame : Untraced → Untraced → Type 0
AreSame u v = (map uncounted u.harts ≡ map uncounted v.harts) × (u.reservations ≡ v.reservations) × (u.console ≡ v.console) × (u.bytes ≡ v.bytes)

-- after none of the turns of its rows before turn n it is as it was
abbrev pub Moves : ℕ → ℕ → Running → Type 0
Moves rows n m = (t : ℕ) → 1 ≤ t → t < n → are_alike m.state (after_rounds (t * rows) m).state ≡ false

-- whether it is p rounds on where it was, whether it is within n rounds, and whether a hart asks for the number of one of them
abbrev pub is_back_after : ℕ → Running → Bool
is_back_after p m = is_back_in m.code m.plan.budget (quotas_of m.plan) (length m.plan.rows) m.state p

abbrev pub is_back_within : ℕ → Running → Bool
is_back_within n m = comes_back_within m.code m.plan.budget (quotas_of m.plan) (length m.plan.rows) m.state n

abbrev pub asks_within : ℕ → Running → Bool
asks_within n m = asks_in_run (words_of m.code) (asks_number m.code) m.plan.budget (quotas_of m.plan) n m.state
