-- Recordings of runs, and what is asked of one: whether the run is the recorded one, and which accesses hit.
use Rattle.std.specs.Prelude.{◌≡◌, ℕ, ◌-◌, ◌<◌, ◌≤◌, ◌==◌, if◌then◌else◌, List, length, slice_get, Some}
use Rattle.pages.specs.declared.access.Range.{Range}
use Rattle.round_schedule.specs.declared.event.Event.{Event}
use Rattle.round_planner.specs.Quotas.{Planned}
use Rattle.machine.specs.Machine.{Running, opening, after_rounds}
use Rattle.round_planner.specs.Settings.{IsPlanOf, image_of}
use Rattle.round_planner.specs.declared.settings.Format.{Format}
use Rattle.round_planner.specs.declared.settings.Format.TheVariants.{Elf, Flat}
use Rattle.round_planner.specs.declared.settings.Settings.{Settings}
use Rattle.recording.specs.Recorded.{Checkpoint, Recorded}
use Rattle.replayer.specs.declared.verdict.Verdict.{Verdict}
use Rattle.replayer.specs.declared.verdict.Verdict.TheVariants.{Same, Differs}
use Rattle.kept_states.specs.Summaries.{checkpoint_of, checkpoints_of_rounds}
use Rattle.run_events.specs.Hits.{hits}

abbrev pub format_of : ℕ → Format
format_of n = if n == 1 then Flat else Elf

abbrev pub number_of : Format → ℕ
number_of Elf = 0
number_of Flat = 1

-- ---- making one

-- the recording of what a run with these settings was asked for, and of what is kept of its rounds
abbrev pub recorded_with : Settings → ℕ → List ℕ → List ℕ → List Checkpoint → Recorded
recorded_with s every file input checkpoints = record {
  version = 2;
  format = number_of s.format;
  harts = s.harts;
  pages = s.pages;
  rounds = s.rounds;
  budget = s.budget;
  every = every;
  image = file;
  input = input;
  plan = s.plan.now;
  checkpoints = checkpoints;
}

-- the recording of a run, with registers after each round that is a multiple of `every`
abbrev pub recorded_of : Settings → ℕ → List ℕ → List ℕ → Planned → Recorded
recorded_of s every file input plan =
    recorded_with s every file input (checkpoints_of_rounds every s.rounds (opening (image_of s.format file s.pages) input plan))

-- ---- the run of one

-- the plan is what its text says, for its harts and budget
abbrev pub IsPlanFor : Recorded → Planned → Type 0
IsPlanFor r plan = IsPlanOf r.harts r.plan r.budget plan

-- the machine of its inputs before the first round
abbrev pub start_of : Recorded → Planned → Running
start_of r plan = opening (image_of (format_of r.format) r.image r.pages) r.input plan

-- the run from m has after round k the state that was kept of it
abbrev pub Agrees : List Checkpoint → ℕ → Running → ℕ → Type 0
Agrees ks every m k = slice_get ks (k - 1) ≡ Some (checkpoint_of every (after_rounds k m).state)

-- the first round after which it has not, of as many as were kept, or that there is none
abbrev pub IsVerdictOn : List Checkpoint → ℕ → Running → Verdict → Type 0
IsVerdictOn ks every m Same = (k : ℕ) → 1 ≤ k → k ≤ length ks → Agrees ks every m k
IsVerdictOn ks every m (Differs k) = (1 ≤ k) × (k ≤ length ks) × ((j : ℕ) → 1 ≤ j → j < k → Agrees ks every m j) × (Agrees ks every m k → ⊥)

-- the verdict on a recording whose run begins at m
abbrev pub IsVerdict : Recorded → Running → Verdict → Type 0
IsVerdict r m v = IsVerdictOn r.checkpoints r.every m v

-- the verdict after one more round, by the one before it and by whether the state after that round, n, is what was kept
abbrev pub IsNextVerdict : Verdict → Type 0 → ℕ → Verdict → Type 0
IsNextVerdict Same Agreed n Same = Agreed
IsNextVerdict Same Agreed n (Differs k) = (k ≡ n) × (Agreed → ⊥)
IsNextVerdict (Differs j) Agreed n Same = ⊥
IsNextVerdict (Differs j) Agreed n (Differs k) = k ≡ j

-- ---- which accesses hit

-- the hits of the run that begins at m, in the order of its trace
abbrev pub hits_of : Recorded → Running → List Range → List Event
hits_of r m ranges = hits ranges (after_rounds r.rounds m).state.trace
