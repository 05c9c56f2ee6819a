-- A hart within a round of a run, and the pc of an event's instruction.
use Rattle.std.specs.Prelude.{ℕ, zero, suc, ◌-◌, ◌≤◌, nat_lt, if◌then◌else◌, List, slice_get, Option, None, option_map}
use Rattle.std.specs.Option.{option_map_or}
use Rattle.round_schedule.specs.declared.event.Event.{Event}
use Rattle.round_schedule.specs.Accesses.{place_of}
use Rattle.round_schedule.specs.Past.{hart_after}
use Rattle.round_planner.specs.Quotas.{quotas_of}
use Rattle.hart_step.specs.Words.{words_of}
use Rattle.hart_step.specs.declared.hart.Hart.{Hart}
use Rattle.machine.specs.Machine.{Running, after_rounds}

-- a hart after the first `count` instructions that it did in a round of the run of so many rounds from m, serial ones counted;
-- the first round is round 1
abbrev pub hart_at : ℕ → Running → ℕ → ℕ → ℕ → Option Hart
hart_at rounds m zero hart count = None
hart_at rounds m (suc n) hart count = if nat_lt n rounds then hart_after (words_of m.code) m.plan.budget (quotas_of m.plan) (after_rounds n m).state hart count else None

-- how many instructions a hart has done
abbrev pub done_by : List Hart → ℕ → ℕ
done_by harts hart = option_map_or (λ (h : Hart). h.done) (slice_get harts hart) 0

-- how many it had done before a round
abbrev pub done_before : Running → ℕ → ℕ → ℕ
done_before m round hart = done_by (after_rounds (round - 1) m).state.harts hart

-- an event of a round that comes after so many
abbrev pub IsAfterRounds : ℕ → Event → Type 0
IsAfterRounds n e = n ≤ e.round - 1

-- the hart of an event before the event's instruction: its place says how many the hart had done
abbrev pub hart_before : ℕ → Running → Event → Option Hart
hart_before rounds m e = hart_at rounds m e.round e.hart (place_of e.access - done_before m e.round e.hart)

-- the pc of that instruction
abbrev pub pc_before : ℕ → Running → Event → Option ℕ
pc_before rounds m e = option_map (λ (h : Hart). h.pc) (hart_before rounds m e)

-- the same of an event of the next round
abbrev pub pc_in_next : Running → Event → Option ℕ
pc_in_next m e =
    option_map (λ (h : Hart). h.pc) (hart_after (words_of m.code) m.plan.budget (quotas_of m.plan) m.state e.hart (place_of e.access - done_by m.state.harts e.hart))
