-- The pcs of events in the parts of the parallel phase of the next round.
use Rattle.std.specs.Prelude.{◌≡◌, ℕ, ◌==◌, Bool, false, List, slice_get, slice_index, All, Option, Some, None}
use Rattle.round_schedule.specs.declared.event.Event.{Event}
use Rattle.round_schedule.specs.declared.event.Phase.{Phase}
use Rattle.round_schedule.specs.declared.event.Phase.TheVariants.{Parallel, Serial}
use Rattle.round_planner.specs.Quotas.{quotas_of}
use Rattle.hart_step.specs.declared.hart.Hart.{Hart}
use Rattle.machine.specs.Untraced.{Untraced}
use Rattle.moments.specs.Hits.{harts_in_part}
use Rattle.moments.specs.Pcs.{pc_in}

-- hart i in its part, which it begins as h
abbrev pub part_of : Untraced → ℕ → Hart → List Hart
part_of u i h = harts_in_part u.code (slice_index (quotas_of u.plan u.rounds) i) (record { hart = h; bytes = u.bytes })

abbrev pub pc_of_hart : Untraced → Event → Option Hart → Option ℕ
pc_of_hart u e None = None
pc_of_hart u e (Some h) = pc_in h.done (part_of u e.hart h) e

-- an event of the parallel phase has the pc of its instruction, where its hart does that in its part; one of the serial phase has none
abbrev pub pc_by_phase : Phase → Untraced → Event → Option ℕ
pc_by_phase Parallel u e = pc_of_hart u e (slice_get u.harts e.hart)
pc_by_phase Serial u e = None

abbrev pub pc_in_parts : Untraced → Event → Option ℕ
pc_in_parts u e = pc_by_phase e.phase u e

-- an event of the parallel phase of this hart
abbrev pub is_parallel : Phase → ℕ → ℕ → Bool
is_parallel Parallel i j = i == j
is_parallel Serial i j = false

abbrev pub is_of_part : ℕ → Event → Bool
is_of_part i e = is_parallel e.phase e.hart i
