-- What is kept while a file is followed.
use Rattle.std.specs.Prelude.{◌≡◌, ◌≢◌, ◌<◌, ◌≤◌, ℕ, false, if◌then◌else◌, ◌==◌, true, List, length, map, slice_index, take, Option, Some, None}
use Rattle.pages.specs.Memory.{Memory}
use Rattle.rv64_decode.specs.declared.instruction.Instr.{Instr}
use Rattle.round_schedule.specs.declared.bounds.TheConstants.{MOST_HARTS}
use Rattle.execution.specs.Executions.{IsLike, Standing, Stops}
use Rattle.execution_checker.specs.Allowed.{Follows}
use Rattle.execution_views.specs.declared.sights.HartStep.{HartStep}
use Rattle.execution_views.specs.Walks.{AreNotes}
use Rattle.execution_file.specs.Recorded.{HartDeeds}
use Rattle.execution_file.specs.Deeds.{code_of, numbers_of, value_of}
use Rattle.hart_step.specs.declared.hart.Stop.{Stop}
use Rattle.execution_file.specs.Views.{hart_view}
use Rattle.trace.specs.Traced.{Laid}
use Rattle.execution_scripts.specs.declared.checking.Checked.{Checked}
use Rattle.execution_scripts.specs.Following.{Reads, Runs, calls, done_by, is_call, line_of}
use Rattle.execution_scripts.specs.declared.calls.Taken.{Taken}
use Rattle.execution_scripts.specs.declared.calls.Taken.TheVariants.{Called, Done, Stopped}
use Rattle.execution.specs.declared.step_fault.StepFault.{StepFault}
use Rattle.execution.specs.declared.step_fault.StepFault.TheVariants.{OtherNumber as Unread}
use Rattle.execution_scripts.specs.declared.fault.Misfit.{Misfit}
use Rattle.execution_scripts.specs.declared.fault.Misfit.TheVariants.{NoNumber, NoStep, OtherExit, OtherNumber, OtherStop, RunsOn}
use Rattle.execution_scripts.specs.declared.fault.Fault.{Fault}
use Rattle.execution_scripts.specs.declared.fault.Halt.{Halt}
use Rattle.execution_scripts.specs.declared.fault.Halt.TheVariants as halts
use Rattle.execution_scripts.specs.declared.following.Follower.{Follower}
use Rattle.execution_scripts.specs.declared.way.Way.{Way}

-- a script led from the start to where the execution stands, and this is what was seen on the way
pub record IsWay (image : Memory) (start : Standing) (asked : Option HartStep) (w : Way) : Type 0 where
  pub like : IsLike image w.execution.memory
  pub follows : Follows image w.script.items start w.execution.standing
  pub asks : w.asked ≡ asked
  pub notes : AreNotes image start w.execution.standing asked w.notes

-- the image that is followed, from which start, by which lines, and which step is looked at
pub record Course : Type 0 where
  pub image : Memory
  pub start : Standing
  pub lines : List HartDeeds
  pub asked : Option HartStep

-- of its line a hart has read so many numbers
pub record HasRead (line : HartDeeds) (numbers : List ℕ) (used : ℕ) : Type 0 where
  pub are : numbers ≡ take used line.reads
  pub within : used ≤ length line.reads

-- this course is followed, in round n
pub record IsOn (c : Course) (n : ℕ) (f : Follower) : Type 0 where
  pub way : IsWay c.image c.start c.asked f.way
  pub lines : map hart_view f.parts.now ≡ c.lines
  pub few : length c.lines ≤ MOST_HARTS
  pub harts : length f.way.execution.standing.harts ≡ length c.lines
  pub counts : length f.used.items ≡ length c.lines
  pub reads : (h : ℕ) → h < length c.lines → HasRead (line_of c.lines h) (numbers_of h f.way.execution.standing.events) (slice_index f.used.items h)
  pub round : f.round ≡ n
  pub later : f.way.execution.standing.round ≤ n

-- no hart has done more instructions than its line says
abbrev pub AreWithin : List HartDeeds → Standing → Type 0
AreWithin lines p = (h : ℕ) → done_by p h ≤ (line_of lines h).steps

-- what the instruction that was done is, where x17 was this
abbrev pub taken_as : Option Instr → ℕ → Taken
taken_as None number = Done
taken_as (Some i) number = if is_call i number then Called (number == 3) else Done

-- what hart h did next, from p to q
abbrev pub Took : Taken → Memory → HartDeeds → ℕ → ℕ → Standing → Standing → Type 0
Took Done image line n h p q = (s : Reads image line n h p q) × (calls s ≡ false)
Took (Called round) image line n h p q = (s : Reads image line n h p q) × (calls s ≡ true)
Took Stopped image line n h p q = Stops image h p q × (q.round ≡ n)

-- what was found hands on what was followed, and the bytes that memory opened with
pub record HandsOn (w : Way) (laid : List Laid) (c : Checked) : Type 0 where
  pub standing : c.execution.standing ≡ w.execution.standing
  pub script : c.script.items ≡ w.script.items
  pub opening : c.opening.opening ≡ laid
  pub sights : c.sights ≡ w.notes.sights

-- why a hart that says this number, or none, doesn't read another one; and why it has no such step
abbrev pub misfit_of : ℕ → Option ℕ → Misfit
misfit_of read None = NoNumber
misfit_of read (Some said) = OtherNumber read said

abbrev pub misfit_for : StepFault → Option ℕ → Misfit
misfit_for (Unread read) said = misfit_of read said
misfit_for _ said = NoStep

-- where a halt is for a fault, this is so of it
abbrev pub OnFault : Halt → (Fault → Type 0) → Type 0
OnFault (halts.Fault f) P = P f
OnFault halts.OutOfMemory P = Unit {0}

-- hart h has done all instructions that its line leaves it
pub record HasRun (image : Memory) (line : HartDeeds) (n h : ℕ) (p q : Standing) : Type 0 where
  pub calls : ℕ
  pub runs : Runs image line n h calls p q
  pub all : done_by q h ≡ line.steps

-- the step was a stop, with this code and this value; or it was none, or one with others, for this reason
pub record EndsAs (taken : Taken) (stop : Option Stop) (k : ℕ) (v : Option ℕ) : Type 0 where
  pub stopped : taken ≡ Stopped
  pub code : code_of stop ≡ k
  pub value : value_of stop ≡ v

abbrev pub EndsOtherwise : Taken → Option Stop → ℕ → Option ℕ → Misfit → Type 0
EndsOtherwise taken stop code value RunsOn = taken ≢ Stopped
EndsOtherwise taken stop code value (OtherExit v) = (taken ≡ Stopped) × (value_of stop ≡ Some v) × ((code_of stop ≡ code) → (value_of stop ≡ value) → ⊥)
EndsOtherwise taken stop code value (OtherStop k) = (taken ≡ Stopped) × (code_of stop ≡ k) × (value_of stop ≡ None) × ((code_of stop ≡ code) → (value_of stop ≡ value) → ⊥)
EndsOtherwise taken stop code value _ = ⊥
