-- Rounds in which no hart runs.
use Rattle.std.specs.Prelude.{◌≡◌, ℕ, ◌+◌, true, List, All}
use Rattle.round_schedule.specs.Schedule.{State, Words, run_of}

-- where all harts have stopped, rounds change the number of rounds alone
abbrev pub StoppedRunsPass : (H C : Type 0) → Type 0
StoppedRunsPass H C =
    (w : Words H C) (budget : ℕ) (quotas : ℕ → List ℕ) (n : ℕ) (s : State H C) → All (λ (h : H). w.stopped h ≡ true) s.harts →
    run_of w budget quotas n s ≡ record s { rounds = s.rounds + n }
