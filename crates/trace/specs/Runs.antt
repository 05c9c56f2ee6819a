-- The traces of runs.
use Rattle.std.specs.Prelude.{◌≡◌, ℕ, ◌+◌, ◌*◌, ◌^◌, ◌<◌, ◌≤◌, List, length, All}
use Rattle.pages.specs.Memory.{IsBytes}
use Rattle.round_schedule.specs.Schedule.{Words, opening_state, run_of}
use Rattle.round_schedule.specs.Sound.{Counts}
use Rattle.hart_step.specs.Forms.{Forms}
use Rattle.trace.specs.Traced.{IsTrace}

-- in a run that is too short for the counts of instructions to wrap, over instructions whose accesses have their forms,
-- each event has the form of its kind and a hart's places rise
abbrev pub RunsLeaveTraces : (H C : Type 0) → Type 0
RunsLeaveTraces H C =
    (w : Words H C) (done : H → ℕ) → Forms w → Counts w done → (budget most : ℕ) (quotas : ℕ → List ℕ) → ((m : ℕ) → All (λ q. q ≤ most) (quotas m)) →
    (n : ℕ) (hs : List H) (bs : List ℕ) (c : C) → IsBytes bs → length bs ≤ 2 ^ 32 → All (λ h. done h ≡ 0) hs → n * (most + budget) < 2 ^ 64 →
    IsTrace (run_of w budget quotas n (opening_state hs bs c)).trace
