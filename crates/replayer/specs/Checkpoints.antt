-- A recording that was opened: its verdict, and the machines of its run that are kept to go on from.
use Rattle.std.specs.Prelude.{◌≡◌, ℕ, suc, ◌+◌, ◌*◌, ◌/◌, ◌<◌, ◌==◌, nat_lt, if◌then◌else◌, List, length, slice_get, Option, Some, None}
use Rattle.round_planner.specs.Quotas.{Planned}
use Rattle.machine.specs.Machine.{Running, after_rounds}
use Rattle.recording.specs.Recorded.{Recorded}
use Rattle.replayer.specs.declared.verdict.Verdict.{Verdict}
use Rattle.replayer.specs.Replayed.{IsVerdict, start_of}

-- of how many rounds it is, the machine before the first one, of which number's multiples the machine is kept, and the verdict
pub record Opened : Type 0 where
  pub rounds : ℕ
  pub start : Running
  pub every : ℕ
  pub verdict : Verdict

-- it is this recording, whose plan is this one, opened to keep the machine after each multiple of k
pub record IsOpened (r : Recorded) (plan : Planned) (k : ℕ) (o : Opened) : Type 0 where
  pub rounds : o.rounds ≡ r.rounds
  pub start : o.start ≡ start_of r plan
  pub every : o.every ≡ k
  pub verdict : IsVerdict r o.start o.verdict

-- how many machines are kept: the one before the first round, and those after each round that is a multiple of `every`
abbrev pub checkpoints_of : ℕ → ℕ → ℕ
checkpoints_of every rounds = if every == 0 then 1 else rounds / every + 1

-- machine k is the one after round k * every
abbrev pub checkpoint_machine : Opened → ℕ → Option Running
checkpoint_machine o k = if nat_lt k (checkpoints_of o.every o.rounds) then Some (after_rounds (k * o.every) o.start) else None

-- these machines are the ones kept of so many rounds from `start` on, without that one
pub record AreCheckpoints (every rounds : ℕ) (start : Running) (later : List Running) : Type 0 where
  pub count : suc (length later) ≡ checkpoints_of every rounds
  pub each : (k : ℕ) → k < length later → slice_get later k ≡ Some (after_rounds (suc k * every) start)
