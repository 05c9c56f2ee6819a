-- Where a run stands after steps of one hart.
use Rattle.std.specs.Prelude.{◌≡◌, ℕ, zero, suc, ◌≤◌, nat_le, nat_lt, ◌==◌, ◌&&◌, ◌||◌, not, Bool, true, false, MatchBool, if◌then◌else◌, [], Option, Some, None}
use Rattle.hart_step.specs.declared.hart.Hart.{Hart}
use Rattle.hart_step.specs.Numbers.{plus}
use Rattle.watching.specs.declared.watchpoint.Way.{Way}
use Rattle.watching.specs.declared.watchpoint.Way.TheVariants.{On, Back}
use Rattle.past_harts.specs.declared.moment.Moment.{Moment}
use Rattle.past_harts.specs.declared.point.Point.{Point}
use Rattle.past_harts.specs.declared.point.Side.{Side}
use Rattle.past_harts.specs.declared.point.Side.TheVariants.{RivalAfter, Break, Rival}
use Rattle.round_steps.specs.declared.told.Told.{Told}
use Rattle.past_harts.specs.Moments.{is_before}
use Rattle.past_harts.specs.Points.{point_before, same_moment, is_behind_move}
use Rattle.gdb_replies.specs.declared.stop_reply.Reason.{Reason}
use Rattle.gdb_replies.specs.declared.stop_reply.Reason.TheVariants.{Begin, End, Step, Watch}
use Rattle.gdb_talk.specs.Told.{is_stopped, why, why_told}
use Rattle.gdb_runs.specs.declared.session.Standing.{Standing}
use Rattle.gdb_runs.specs.Sessions.{Recorded, State, hart_seen}
use Rattle.gdb_runs.specs.Standings.{end_of, moved, stays, told_at, told_or}
use Rattle.gdb_runs.specs.Wanted.{Finds, all_told, only_of, watched_of}

-- where a hart has no step that way: behind the last round, or where it stood
abbrev pub no_step : ℕ → Standing → Way → ℕ → Standing
no_step rounds t On hart = end_of rounds t On
no_step rounds t Back hart = stays t Begin hart

-- ---- a step of a hart, in which the others may go on: it ends before the hart's next move, or at what is told on the way. Where the debugger stands
-- before a move of the hart, that one is the step

abbrev pub at_side : Point → Side → Point
at_side at side = record at { side = side }

-- where a step on begins to be sought, and a step back
abbrev pub sought_from : Way → Point → ℕ → Point
sought_from On here hart = if here.moment.place.hart == hart then at_side here RivalAfter else here
sought_from Back here hart = if here.moment.place.hart == hart && not (is_behind_move here.side) then at_side here Break else here

abbrev pub later_of : Point → Point → Point
later_of x y = if point_before x y then y else x

abbrev pub sooner_of : Point → Point → Point
sooner_of x y = if point_before x y then x else y

-- the hart's step begins where this is told: its moment is one of its own, and either the debugger stands there, or nothing else is told there
abbrev pub is_step : Reason → Bool
is_step Step = true
is_step reason = false

abbrev pub begins_step : Recorded → State → ℕ → Told → Bool
begins_step r s hart x =
    x.point.moment.place.hart == hart
    && (not (is_before s.standing.point.moment x.point.moment)
    || (is_step (why_told s.stops x.watch (hart_seen r.run x.point hart)) && not (is_stopped (hart_seen r.run x.point hart))))

pub record StepsFrom (r : Recorded) (s : State) (hart : ℕ) (at : Point) (t : Standing) : Type 0 where
  pub found : Option Told
  pub finds : Finds r On (all_told s (Some hart)) (later_of s.standing.point at) found
  pub is : t ≡ told_or r s (end_of r.rounds s.standing On) found

abbrev pub StepsBy : Recorded → State → ℕ → Option Told → Standing → Type 0
StepsBy r s hart None t = t ≡ end_of r.rounds s.standing On
StepsBy r s hart (Some x) t = MatchBool (begins_step r s hart x) (StepsFrom r s hart x.point t) (t ≡ told_at r s x)

pub record StepsOn (r : Recorded) (s : State) (hart : ℕ) (t : Standing) : Type 0 where
  pub found : Option Told
  pub finds : Finds r On (all_told s (Some hart)) (sought_from On s.standing.point hart) found
  pub by : StepsBy r s hart found t

-- a hart that has stopped does no step
abbrev pub Steps : Recorded → State → ℕ → Standing → Type 0
Steps r s hart t = MatchBool (is_stopped (hart_seen r.run s.standing.point hart)) (t ≡ stays s.standing End hart) (StepsOn r s hart t)

-- ---- steps that are repeated as long as the hart's pc is in a range of addresses, whose second end is not in it, and nothing else is told

abbrev pub is_in : ℕ → ℕ → Option Hart → Bool
is_in low high None = false
is_in low high (Some h) = nat_le low h.pc && nat_lt h.pc high

abbrev pub steps_further : Recorded → ℕ → ℕ → ℕ → Standing → Bool
steps_further r low high hart t =
    let there = hart_seen r.run t.point hart in
    not (not (t.told == hart) || not (is_step t.reason)) && (not (is_stopped there) && is_in low high there)

-- where it stands then
abbrev pub stands_then : State → Standing → State
stands_then s t = record s { standing = t }

-- n steps at most
unfoldable pub StepsUpTo : Recorded → ℕ → ℕ → ℕ → ℕ → State → Standing → Type 0
StepsUpTo r low high hart zero s t = t ≡ s.standing
StepsUpTo r low high hart (suc n) s t =
    (u : Standing) × Steps r s hart u × MatchBool (steps_further r low high hart u) (StepsUpTo r low high hart n (stands_then s u) t) (t ≡ u)

-- so many as a debugger waits for: one at least
pub record StepsIn (r : Recorded) (low high hart : ℕ) (s : State) (t : Standing) : Type 0 where
  pub most : ℕ
  pub some : 1 ≤ most
  pub steps : StepsUpTo r low high hart most s t

-- a step back of the hart that is asked about
pub record StepsBackBeside (r : Recorded) (s : State) (hart : ℕ) (t : Standing) : Type 0 where
  pub found : Option Told
  pub finds : Finds r Back (all_told s (Some hart)) (sought_from Back s.standing.point hart) found
  pub is : t ≡ told_or r s (no_step r.rounds s.standing Back hart) found

-- ---- a step of a hart alone, on or back: it ends right behind the move, or before it, and of others nothing is told. Of the hart's own move it is told what
-- watchpoints tell. Where a rival was told the debugger only looks: it stays, once

abbrev pub is_watch : Reason → Bool
is_watch (Watch address) = true
is_watch reason = false

abbrev pub is_rival : Way → Side → Bool
is_rival On Rival = true
is_rival Back RivalAfter = true
is_rival way side = false

abbrev pub only_looks : Way → Standing → ℕ → Bool
only_looks way t hart = is_watch t.reason && (is_rival way t.point.side && t.point.moment.place.hart == hart)

-- the moment behind a move
abbrev pub after_one : Moment → Moment
after_one at = record at { place = record at.place { count = plus at.place.count 1 } }

-- what is told of the move of this moment is sought from here, and told at that moment
abbrev pub own_from : Way → Point → Point → Point
own_from On here at = later_of here at
own_from Back here at = sooner_of here (record { moment = after_one at.moment; side = Break })

abbrev pub own_moment : Way → Moment → Moment
own_moment On at = at
own_moment Back at = after_one at

-- where the move leads: it is none where the hart has stopped
abbrev pub led_to : Recorded → Way → ℕ → Point → Point
led_to r On hart at = if is_stopped (hart_seen r.run at hart) then at else record { moment = after_one at.moment; side = RivalAfter }
led_to r Back hart at = at

-- one stands there with what is told there ahead, but for a fault of the hart's own
abbrev pub with_fault : Option Hart → Point → Point
with_fault h at = if is_stopped h then at_side at Break else at

abbrev pub stands_alone : Recorded → State → ℕ → Point → Standing
stands_alone r s hart at =
    let there = hart_seen r.run at hart in
    moved s.standing (with_fault there at) (why [] [] there) hart

abbrev pub alone_at : Recorded → State → Way → ℕ → Point → Option Told → Standing
alone_at r s way hart at None = stands_alone r s hart (led_to r way hart at)
alone_at r s way hart at (Some x) = if same_moment x.point.moment (own_moment way at.moment) then told_at r s x else stands_alone r s hart (led_to r way hart at)

pub record MovesAlone (r : Recorded) (s : State) (way : Way) (hart : ℕ) (at : Point) (t : Standing) : Type 0 where
  pub found : Option Told
  pub finds : Finds r way (watched_of s hart) (own_from way s.standing.point at) found
  pub is : t ≡ alone_at r s way hart at found

abbrev pub MovesAloneBy : Recorded → State → Way → ℕ → Option Told → Standing → Type 0
MovesAloneBy r s way hart None t = t ≡ no_step r.rounds s.standing way hart
MovesAloneBy r s way hart (Some x) t = MovesAlone r s way hart x.point t

pub record PassesOne (r : Recorded) (s : State) (way : Way) (hart : ℕ) (t : Standing) : Type 0 where
  pub found : Option Told
  pub finds : Finds r way (only_of hart) (sought_from way s.standing.point hart) found
  pub by : MovesAloneBy r s way hart found t

abbrev pub Passes : Recorded → State → Way → ℕ → Standing → Type 0
Passes r s way hart t = MatchBool (only_looks way s.standing hart) (t ≡ stays s.standing Step hart) (PassesOne r s way hart t)

abbrev pub StepsAlone : Recorded → State → ℕ → Standing → Type 0
StepsAlone r s hart t = MatchBool (is_stopped (hart_seen r.run s.standing.point hart)) (t ≡ stays s.standing End hart) (Passes r s On hart t)

-- ---- a step back, of the hart alone that is to move so, if there is one

abbrev pub StepsBackBy : Recorded → State → Option ℕ → Standing → Type 0
StepsBackBy r s None t = StepsBackBeside r s s.standing.general t
StepsBackBy r s (Some hart) t = Passes r s Back hart t

abbrev pub StepsBack : Recorded → State → Standing → Type 0
StepsBack r s t = StepsBackBy r s s.standing.moving t
