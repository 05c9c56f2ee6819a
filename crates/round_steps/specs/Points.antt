-- What a debugger is told in the rounds of a run: where it asked to stop, and what its watchpoints tell of. On the way on a move is told before it, and on
-- the way back behind it.
use Rattle.std.specs.Prelude.{ℕ, zero, suc, Bool, true, false, if◌then◌else◌, List, [], ◌∷◌, ◌++◌, map, filter, slice_get, is_some, Option, Some, None}
use Rattle.round_planner.specs.Quotas.{quotas_of}
use Rattle.hart_step.specs.declared.hart.Hart.{Hart}
use Rattle.hart_step.specs.Numbers.{minus, plus}
use Rattle.hart_step.specs.Words.{words_of}
use Rattle.machine.specs.Machine.{Running, after_rounds}
use Rattle.moments.specs.Moves.{moves_of}
use Rattle.moments.specs.declared.asked.Asked.{Asked}
use Rattle.watching.specs.declared.hits.Hit.{Hit}
use Rattle.watching.specs.declared.watchpoint.Watchpoint.{Watchpoint}
use Rattle.watching.specs.declared.watchpoint.Way.{Way}
use Rattle.watching.specs.declared.watchpoint.Way.TheVariants.{On, Back}
use Rattle.watching.specs.Watches.{hits_of}
use Rattle.past_harts.specs.declared.place.Place.{Place}
use Rattle.past_harts.specs.declared.point.Point.{Point}
use Rattle.past_harts.specs.declared.point.Side.{Side}
use Rattle.past_harts.specs.declared.point.Side.TheVariants.{After, RivalAfter, Break, Rival, Access}
use Rattle.round_steps.specs.declared.told.Told.{Told}
use Rattle.past_harts.specs.Moments.{moment_in}
use Rattle.past_harts.specs.Points.{point_before}
use Rattle.round_steps.specs.Places.{round_places}

-- the earliest of some, and the latest
abbrev pub sooner : Option Told → Told → Option Told
sooner None x = Some x
sooner (Some y) x = if point_before x.point y.point then Some x else Some y

abbrev pub later : Option Told → Told → Option Told
later None x = Some x
later (Some y) x = if point_before x.point y.point then Some y else Some x

abbrev pub earliest : Option Told → List Told → Option Told
earliest y [] = y
earliest y (x ∷ xs) = earliest (sooner y x) xs

abbrev pub latest : Option Told → List Told → Option Told
latest y [] = y
latest y (x ∷ xs) = latest (later y x) xs

-- ---- what is told in the next round of a run

abbrev pub break_point : ℕ → Place → Told
break_point k p = record { point = record { moment = moment_in k p; side = Break }; watch = None }

abbrev pub hit_side : Way → Bool → Side
hit_side On true = Rival
hit_side On false = Access
hit_side Back true = RivalAfter
hit_side Back false = After

-- how many instructions a hart has done; 0 where there is no such hart
abbrev pub done_of : Option Hart → ℕ
done_of None = 0
done_of (Some h) = h.done

abbrev pub done_by : List Hart → ℕ → ℕ
done_by hs i = done_of (slice_get hs i)

-- how many of the round it has done before the move, and behind it
abbrev pub hit_count : Way → ℕ → ℕ
hit_count On done = done
hit_count Back done = plus done 1

abbrev pub hit_place : Way → List Hart → Hit → Place
hit_place way hs h = record { phase = h.phase; hart = h.hart; count = hit_count way (minus h.place (done_by hs h.hart)) }

abbrev pub hit_point : Way → ℕ → List Hart → Hit → Told
hit_point way k hs h = record { point = record { moment = moment_in k (hit_place way hs h); side = hit_side way h.rival }; watch = Some h.watch }

abbrev pub points_of : Way → Asked → List Watchpoint → Running → List Told
points_of way a ws m =
    map (break_point m.state.rounds) (round_places a m)
    ++ map (hit_point way m.state.rounds m.state.harts) (hits_of way ws (moves_of (words_of m.code) m.plan.budget (quotas_of m.plan) m.state))

-- ---- in the next n rounds of a run

abbrev pub or_else : Option Told → Option Told → Option Told
or_else None y = y
or_else (Some x) y = Some x

abbrev pub first_in : Asked → List Watchpoint → Running → Point → Option Told
first_in a ws m here = earliest None (filter (λ (x : Told). point_before here x.point) (points_of On a ws m))

abbrev pub last_in : Asked → List Watchpoint → Running → Point → Option Told
last_in a ws m here = latest None (filter (λ (x : Told). point_before x.point here) (points_of Back a ws m))

-- the earliest one behind a point: of the first round that has one
unfoldable pub next_point_of : Asked → List Watchpoint → Running → ℕ → Point → Option Told
next_point_of a ws m zero here = None
next_point_of a ws m (suc n) here = or_else (next_point_of a ws m n here) (first_in a ws (after_rounds n m) here)

-- the latest one before a point: of the last round that has one
unfoldable pub previous_point_of : Asked → List Watchpoint → Running → ℕ → Point → Option Told
previous_point_of a ws m zero here = None
previous_point_of a ws m (suc n) here = or_else (last_in a ws (after_rounds n m) here) (previous_point_of a ws m n here)

-- one way
abbrev pub nearest_told : Way → Point → List Told → Option Told
nearest_told On here told = earliest None (filter (λ (x : Told). point_before here x.point) told)
nearest_told Back here told = latest None (filter (λ (x : Told). point_before x.point here) told)

abbrev pub nearest_in : Way → Asked → List Watchpoint → Running → Point → Option Told
nearest_in On = first_in
nearest_in Back = last_in

abbrev pub nearest_point_of : Way → Asked → List Watchpoint → Running → ℕ → Point → Option Told
nearest_point_of On = next_point_of
nearest_point_of Back = previous_point_of

-- on the way on a search ends with the first round in which something is told
abbrev pub ends : Way → Option Told → Bool
ends On x = is_some x
ends Back x = false
