-- What one round leaves of a guest.
use Rattle.std.specs.Prelude.{◌≡◌, ℕ, ◌+◌, if◌then◌else◌, List, [], ◌∷◌, ◌++◌}
use Rattle.pages.specs.Paged.{Paged}
use Rattle.round_schedule.specs.declared.event.Event.{Event}
use Rattle.round_schedule.specs.Schedule.{HartRound}
use Rattle.commit_phase.specs.Commit.{Committed}
use Rattle.hart_step.specs.declared.hart.Hart.{Hart}
use Rattle.serial_phase.specs.declared.shared.SerialRound.{SerialRound}
use Rattle.serial_phase.specs.declared.shared.SharedState.{SharedState}
use Rattle.serial_phase.specs.Phase.{TakesTurns, serial_done}
use Rattle.hart_rounds.specs.declared.hart_end.HartEnd.{HartEnd}
use Rattle.guest_rounds.specs.Guests.{Guest, Shared, shared_of}
use Rattle.guest_rounds.specs.HartEnds.{harts_of, events_of_rounds}

-- how many of these rounds end waiting
abbrev pub count_waiting : List (HartRound Hart) → ℕ
count_waiting [] = 0
count_waiting (r ∷ rs) = (if r.waits then 1 else 0) + count_waiting rs

-- the commit of the rounds that left these, their serial turns from there to an end, and the events of both
pub record IsFinished (phase : SerialRound) (rs : List (HartRound Hart)) (os : List HartEnd) (old : Shared) (new : Guest) (more : List Event) : Type 0 where
  pub ready : Paged
  pub start : SharedState
  pub end : SharedState
  pub kept : ready.memory ≡ old.memory
  pub committed : Committed rs ready start.pages old.reservations start.reservations
  pub console : start.console.console ≡ old.console
  pub served : TakesTurns (serial_done phase (harts_of os) start) new.harts start end
  pub left : new.shared ≡ shared_of end
  pub events : more ≡ events_of_rounds phase.round rs end.log.closed

-- whatever events the round has that goes on from these rounds of the harts, they may be kept after those that there are
abbrev pub MayFinish : (List Event → Type 0) → SerialRound → List (HartRound Hart) → List HartEnd → Shared → List Event → Type 0
MayFinish may_keep phase rs os old es = (new : Guest) (more : List Event) → IsFinished phase rs os old new more → may_keep (es ++ more)
