-- A debugger's session with an execution.
use Rattle.std.specs.Prelude.{ℕ, Bool, Option, None}
use Rattle.execution_moments.specs.declared.point.TimePoint.{TimePoint}
use Rattle.execution_moments.specs.declared.point.TimeSide.TheVariants.{Break}
use Rattle.execution_moments.specs.Looked.{Looked}
use Rattle.execution_moments.specs.Points.{at}
use Rattle.execution_moments.specs.Shown.{hart_at, view_at}
use Rattle.gdb_replies.specs.declared.stop_reply.Reason.{Reason}
use Rattle.gdb_replies.specs.declared.stop_reply.Reason.TheVariants as reasons
use Rattle.gdb_talk.specs.Stops.{Stopping, stopping}
use Rattle.gdb_talk.specs.Told.{is_stopped}
use Rattle.execution_session.specs.declared.session.Session.{Session}
use Rattle.execution_session.specs.declared.session.Standing.{Standing}

-- where the session stands, and its breakpoints and watchpoints
pub record State : Type 0 where
  pub standing : Standing
  pub stops : Stopping

abbrev pub state_of : Session → State
state_of s = record { standing = s.standing; stops = stopping s.stops }

abbrev pub opening_standing : Standing
opening_standing = record { point = at 0 Break; reason = reasons.Step; told = 0; general = 0; moving = None }

-- it stands at another point, or where it stood
abbrev pub moved : Standing → TimePoint → Reason → ℕ → Standing
moved s point reason hart = record { point = point; reason = reason; told = hart; general = hart; moving = s.moving }

abbrev pub stays : Standing → Reason → ℕ → Standing
stays s reason hart = moved s s.point reason hart

-- ---- harts at a time

abbrev pub has_stopped : Looked → ℕ → ℕ → Bool
has_stopped r time h = is_stopped (hart_at r.course time h)

-- where its next memory operation stands in the order
abbrev pub position_at : Looked → ℕ → ℕ → ℕ
position_at r time h = (view_at r.course r.events r.order time h).position
