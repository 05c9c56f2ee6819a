-- Where in a round something is told, in the order of the trace: in the parts of the parallel phase hart by hart, and after the commit in the serial
-- turns hart by hart.
use Rattle.std.specs.Prelude.{ℕ, zero, suc, ◌-◌, ◌==◌, ◌||◌, Bool, true, if◌then◌else◌, List, [], ◌∷◌, ◌++◌, length, map, drop, slice_get, slice_index, is_some, Option, Some, None}
use Rattle.round_schedule.specs.declared.event.Phase.{Phase}
use Rattle.round_schedule.specs.declared.event.Phase.TheVariants.{Parallel, Serial}
use Rattle.round_schedule.specs.Past.{last_of, past_of}
use Rattle.round_planner.specs.Quotas.{quotas_of}
use Rattle.hart_step.specs.declared.hart.Hart.{Hart}
use Rattle.hart_step.specs.Words.{words_of}
use Rattle.machine.specs.Machine.{Running}
use Rattle.moments.specs.declared.asked.Asked.{Asked}
use Rattle.moments.specs.Hits.{harts_in_part, hits_from, tells}
use Rattle.past_harts.specs.declared.place.Place.{Place}
use Rattle.past_harts.specs.Moments.{place_in}
use Rattle.past_harts.specs.Begun.{Begun, begun_of}

abbrev pub places : Phase → ℕ → List ℕ → List Place
places p i cs = map (place_in p i) cs

-- ---- a hart in its part of the parallel phase: the harts that it is there, of which the first begins the round

abbrev pub part_counts : (Hart → Bool) → Hart → List Hart → List ℕ
part_counts f h part = if is_some h.stop then [] else hits_from f 0 part

abbrev pub ends_stopped : Option Hart → Bool
ends_stopped None = true
ends_stopped (Some h) = is_some h.stop

-- after how many instructions its turn comes; none where it did its whole quota, or has stopped
abbrev pub turn_comes : ℕ → Hart → List Hart → Option ℕ
turn_comes quota h part = if is_some h.stop || ends_stopped (last_of part) || (length part - 1 == quota) then None else Some (length part - 1)

-- ---- all harts

-- a hart's part of it
abbrev pub part_of : Begun → ℕ → Hart → List Hart
part_of b i h = harts_in_part b.code (slice_index b.quotas i) (record { hart = h; bytes = b.bytes })

abbrev pub part_places : Asked → Begun → ℕ → Option Hart → List Place
part_places a b i None = []
part_places a b i (Some h) = places Parallel i (part_counts (tells a i) h (part_of b i h))

abbrev pub turn_at : Begun → ℕ → Option Hart → Option ℕ
turn_at b i None = None
turn_at b i (Some h) = turn_comes (slice_index b.quotas i) h (part_of b i h)

-- the same of the first n harts
unfoldable pub parallel_places : Asked → Begun → ℕ → List Place
parallel_places a b zero = []
parallel_places a b (suc i) = parallel_places a b i ++ part_places a b i (slice_get b.harts i)

unfoldable pub turns_of : Begun → ℕ → List (Option ℕ)
turns_of b zero = []
turns_of b (suc i) = turns_of b i ++ turn_at b i (slice_get b.harts i) ∷ []

-- ---- turns: what the hart is from where its turn comes on

abbrev pub past_at : Running → ℕ → List Hart
past_at m i = past_of (words_of m.code) m.plan.budget (quotas_of m.plan) m.state i

abbrev pub turn_places : Asked → ℕ → List Hart → Option ℕ → List Place
turn_places a i past None = []
turn_places a i past (Some n) = places Serial i (hits_from (tells a i) n (drop n past))

abbrev pub turn_of : Running → ℕ → Option ℕ
turn_of m i = turn_at (begun_of m) i (slice_get m.state.harts i)

unfoldable pub serial_places : Asked → Running → ℕ → List Place
serial_places a m zero = []
serial_places a m (suc i) = serial_places a m i ++ turn_places a i (past_at m i) (turn_of m i)

-- ---- the next round of a run

abbrev pub round_places : Asked → Running → List Place
round_places a m = parallel_places a (begun_of m) (length m.state.harts) ++ serial_places a m (length m.state.harts)
