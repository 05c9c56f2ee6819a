-- A set of instructions that tells of each one: where an instruction leaves no access, a fence that orders nothing stands for it.
use Rattle.std.specs.Prelude.{◌≡◌, List, [], ◌∷◌, Option, Some, None}
use Rattle.round_schedule.specs.declared.access.Access.{Access}
use Rattle.round_schedule.specs.declared.access.Stepped.{Stepped}
use Rattle.round_schedule.specs.declared.access.Stepped.TheVariants.{Done, Stopped, Waits}
use Rattle.round_schedule.specs.declared.event.Event.{Event}
use Rattle.round_schedule.specs.Schedule.{StepOutcome, SerialOutcome, Words}
use Rattle.execution.specs.Executions.{no_access}

abbrev pub told_access : Option Access → Option Access
told_access None = Some no_access
told_access (Some a) = Some a

abbrev pub told : Stepped → Stepped
told (Done a) = Done (told_access a)
told Waits = Waits
told (Stopped code) = Stopped code

abbrev pub told_outcome : {H : Type 0} → StepOutcome H → StepOutcome H
told_outcome o = record { answer = told o.answer; hart = o.hart; stores = o.stores }

abbrev pub told_serially : {H C : Type 0} → SerialOutcome H C → SerialOutcome H C
told_serially o = record { answer = told o.answer; hart = o.hart; stores = o.stores; console = o.console }

abbrev pub telling : {H C : Type 0} → Words H C → Words H C
telling w = record {
  stopped = w.stopped;
  step = λ h bs. told_outcome (w.step h bs);
  serial_step = λ n h bs c r. told_serially (w.serial_step n h bs c r);
}

-- one trace has the events of another in their order, and between them some that stand for instructions without an access
pub data Tells : List Event → List Event → Type 0 where
  tells-none : Tells [] []
  tells-both : (e : Event) (t u : List Event) → Tells t u → Tells (e ∷ t) (e ∷ u)
  tells-more : (e : Event) (t u : List Event) → e.access ≡ no_access → Tells t u → Tells (e ∷ t) u
