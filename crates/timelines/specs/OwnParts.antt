-- What a hart has done of its part of the parallel phase at a place of a round: its stores, and whether it waits for its serial turn then.
use Rattle.std.specs.Prelude.{ℕ, ◌+◌, ◌==◌, ◌&&◌, min, nat_lt, Bool, false, if◌then◌else◌, List, [], ◌∷◌, slice_get, slice_index, Option, Some, None}
use Rattle.std.specs.List.{flat_map}
use Rattle.pages.specs.declared.access.Store.{Store}
use Rattle.round_schedule.specs.declared.access.Access.{Access}
use Rattle.round_schedule.specs.declared.access.Access.TheVariants as accesses
use Rattle.round_schedule.specs.declared.event.Phase.{Phase}
use Rattle.round_schedule.specs.declared.event.Phase.TheVariants.{Parallel, Serial}
use Rattle.round_schedule.specs.Schedule.{HartRound, hart_round_of}
use Rattle.hart_step.specs.declared.hart.Hart.{Hart}
use Rattle.hart_step.specs.Words.{words_of}
use Rattle.machine.specs.Machine.{Running, after_rounds}
use Rattle.past_harts.specs.declared.place.Place.{Place}
use Rattle.past_harts.specs.declared.point.Point.{Point}
use Rattle.past_harts.specs.Begun.{Begun, begun_of}

-- its part of at most n instructions
abbrev pub part_within : Begun → ℕ → Hart → HartRound Hart
part_within b n h = hart_round_of (words_of b.code) b.bytes n h

-- how many instructions of its part hart i may have done at a place of the parallel phase: the harts before the one of the place have done theirs, and those
-- after it have not begun
abbrev pub allowed : Place → ℕ → ℕ → ℕ
allowed p i quota = if nat_lt i p.hart then quota else (if i == p.hart then min p.count quota else 0)

-- ---- the stores that it has done, in the order in which it did them; once the parallel phase is over all are committed

abbrev pub store_of : Access → List Store
store_of (accesses.Store w p a v) = record { address = a; width = w; value = v } ∷ []
store_of x = []

abbrev pub stores_among : List Access → List Store
stores_among as' = flat_map store_of as'

abbrev pub stores_in : Phase → Begun → Place → ℕ → Hart → List Store
stores_in Parallel b p i h = stores_among (part_within b (allowed p i (slice_index b.quotas i)) h).last.accesses
stores_in Serial b p i h = []

abbrev pub stores_by : Begun → Place → ℕ → Option Hart → List Store
stores_by b p i None = []
stores_by b p i (Some h) = stores_in p.phase b p i h

-- those of hart i at a place of the next round that are not committed
abbrev pub own_stores : Running → Place → ℕ → List Store
own_stores m p i = stores_by (begun_of m) p i (slice_get m.state.harts i)

-- those of hart i at a point of the run
abbrev pub uncommitted : Running → Point → ℕ → List Store
uncommitted m at i = own_stores (after_rounds at.moment.rounds m) at.moment.place i

-- ---- it waits where its part is over before the quota, and its turn has not begun: one instruction more is left to it, and the part has no more

abbrev pub waits_in : Phase → Begun → Place → ℕ → Hart → Bool
waits_in Parallel b p i h = (part_within b (min (allowed p i (slice_index b.quotas i) + 1) (slice_index b.quotas i)) h).waits
waits_in Serial b p i h = nat_lt p.hart i && (part_within b (slice_index b.quotas i) h).waits

abbrev pub waits_by : Begun → Place → ℕ → Option Hart → Bool
waits_by b p i None = false
waits_by b p i (Some h) = waits_in p.phase b p i h

abbrev pub waits_at : Running → Place → ℕ → Bool
waits_at m p i = waits_by (begun_of m) p i (slice_get m.state.harts i)
