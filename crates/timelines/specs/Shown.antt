-- What is shown of each hart at a moment: what the hart is there, and memory as it sees it. Before the commit that is memory as the round began under the
-- hart's own stores, and from the commit on memory itself.
use Rattle.std.specs.Prelude.{ℕ, ◌==◌, ◌&&◌, min, nat_lt, if◌then◌else◌, slice_get, slice_index, Option, Some, None}
use Rattle.std.specs.Option.{option_map}
use Rattle.round_schedule.specs.declared.event.Phase.{Phase}
use Rattle.round_schedule.specs.declared.event.Phase.TheVariants.{Parallel, Serial}
use Rattle.round_schedule.specs.Past.{last_of}
use Rattle.round_planner.specs.Quotas.{quotas_of}
use Rattle.hart_step.specs.declared.hart.Hart.{Hart}
use Rattle.hart_step.specs.Words.{words_of}
use Rattle.machine.specs.Machine.{Running, after_round, after_rounds}
use Rattle.moments.specs.Sights.{Sight, part_sights, sight_after}
use Rattle.past_harts.specs.declared.place.Place.{Place}
use Rattle.past_harts.specs.declared.point.Point.{Point}
use Rattle.past_harts.specs.declared.point.Side.{Side}
use Rattle.past_harts.specs.Moments.{phase_number}
use Rattle.past_harts.specs.Points.{is_behind_move}
use Rattle.past_harts.specs.Begun.{Begun, begun_of}

-- hart h before the round
abbrev pub start_of : Begun → Hart → Sight Hart
start_of b h = record { hart = h; bytes = b.bytes }

-- hart i at the end of its part of the parallel phase, which it begins as h
abbrev pub end_of_part : Begun → ℕ → Hart → Option (Sight Hart)
end_of_part b i h = last_of (part_sights (words_of b.code) (slice_index b.quotas i) (start_of b h))

-- the hart of a place
abbrev pub mover : Running → Place → Option (Sight Hart)
mover m p = sight_after (words_of m.code) m.plan.budget (quotas_of m.plan) m.state p.hart p.count

-- in the parallel phase the harts before it are at the end of their parts, and those after it have not begun
abbrev pub beside_part : Begun → Place → ℕ → Hart → Option (Sight Hart)
beside_part b p i h = if nat_lt i p.hart then end_of_part b i h else Some (start_of b h)

-- in a turn those before it have had their turns, and those after it wait for theirs; all see the memory that it sees
abbrev pub seeing : Option (Sight Hart) → Option Hart → Option (Sight Hart)
seeing None h = None
seeing (Some s) None = None
seeing (Some s) (Some h) = Some (record s { hart = h })

abbrev pub hart_of : Option (Sight Hart) → Option Hart
hart_of s = option_map (λ (x : Sight Hart). x.hart) s

abbrev pub hart_beside : Running → Place → ℕ → Hart → Option Hart
hart_beside m p i h = if nat_lt i p.hart then slice_get (after_round m).state.harts i else hart_of (end_of_part (begun_of m) i h)

abbrev pub beside_turn : Running → Place → ℕ → Hart → Option (Sight Hart)
beside_turn m p i h = seeing (mover m p) (hart_beside m p i h)

abbrev pub beside : Phase → Running → Place → ℕ → Hart → Option (Sight Hart)
beside Parallel m p i h = beside_part (begun_of m) p i h
beside Serial m p i h = beside_turn m p i h

abbrev pub another : Running → Place → ℕ → Option Hart → Option (Sight Hart)
another m p i None = None
another m p i (Some h) = beside p.phase m p i h

-- hart i at a place of the next round; none where there is no such hart or place
abbrev pub shown_at : Running → Place → ℕ → Option (Sight Hart)
shown_at m p i = if i == p.hart then mover m p else another m p i (slice_get m.state.harts i)

-- ---- at a point

-- behind a move of its part of the parallel phase a hart sees memory as the round began under its own stores, also where the part ends there
abbrev pub behind_move : Begun → Place → Option Hart → Option (Sight Hart)
behind_move b p None = None
behind_move b p (Some h) = last_of (part_sights (words_of b.code) (min p.count (slice_index b.quotas p.hart)) (start_of b h))

-- hart i at a point of the next round
abbrev pub shown_at_point : Running → Side → Place → ℕ → Option (Sight Hart)
shown_at_point m side p i =
    if is_behind_move side && (phase_number p.phase == 0 && i == p.hart) then behind_move (begun_of m) p (slice_get m.state.harts p.hart) else shown_at m p i

-- hart i at a point of the run
abbrev pub seen : Running → Point → ℕ → Option (Sight Hart)
seen m at i = shown_at_point (after_rounds at.moment.rounds m) at.side at.moment.place i
