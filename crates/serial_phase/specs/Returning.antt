-- Runs that come back to where they were: what later rounds depend on is as after an earlier round, so the run never ends.
use Rattle.std.specs.Prelude.{◌≡◌, ℕ, ◌+◌, ◌*◌, ◌<◌, Bool, false, List, map, length}
use Rattle.round_schedule.specs.Held.{held}
use Rattle.round_schedule.specs.Schedule.{State, Words, run_of}
use Rattle.serial_phase.specs.Asking.{asks_in_run}
use Rattle.serial_phase.specs.Forgetting.{Forgets}

-- all that later rounds depend on is the same: the harts but for what `view` leaves out, memory, the console, the reservations
pub record Alike {H K C : Type 0} (view : H → K) (s t : State H C) : Type 0 where
  pub harts : map view s.harts ≡ map view t.harts
  pub bytes : s.bytes ≡ t.bytes
  pub console : s.console ≡ t.console
  pub holds : (h : ℕ) → h < length s.harts → held h s.trace ≡ held h t.trace

-- p rounds on, the state is like this one, the quotas begin again, and no hart asked for the number of a round in between
pub record ComesBack {H K C : Type 0} (w : Words H C) (view : H → K) (asks : H → List ℕ → Bool) (budget : ℕ) (quotas : ℕ → List ℕ) (p : ℕ) (s : State H C) : Type 0 where
  pub on : 0 < p
  pub again : (x : ℕ) → quotas (x + p) ≡ quotas x
  pub alike : Alike view s (run_of w budget quotas p s)
  pub unasked : asks_in_run w asks budget quotas p s ≡ false

-- then after any number of further rounds the same harts have stopped: each that runs now runs for ever
abbrev pub RunsComeBack : (H K C : Type 0) → Type 0
RunsComeBack H K C =
    (w : Words H C) (view : H → K) (asks : H → List ℕ → Bool) → Forgets w view asks → (budget : ℕ) (quotas : ℕ → List ℕ) (p : ℕ) (s : State H C) →
    ComesBack w view asks budget quotas p s → (n : ℕ) → map w.stopped (run_of w budget quotas n s).harts ≡ map w.stopped s.harts

-- and so it is of each later state: p rounds on it is as it is there
abbrev pub LaterComesBack : (H K C : Type 0) → Type 0
LaterComesBack H K C =
    (w : Words H C) (view : H → K) (asks : H → List ℕ → Bool) → Forgets w view asks → (budget : ℕ) (quotas : ℕ → List ℕ) (p : ℕ) (s : State H C) →
    ComesBack w view asks budget quotas p s → (n : ℕ) → ComesBack w view asks budget quotas p (run_of w budget quotas n s)

-- and the state after any number of times p and r further rounds is like that after r
abbrev pub RunsGoRound : (H K C : Type 0) → Type 0
RunsGoRound H K C =
    (w : Words H C) (view : H → K) (asks : H → List ℕ → Bool) → Forgets w view asks → (budget : ℕ) (quotas : ℕ → List ℕ) (p : ℕ) (s : State H C) →
    ComesBack w view asks budget quotas p s → (k r : ℕ) → Alike view (run_of w budget quotas r s) (run_of w budget quotas (k * p + r) s)
