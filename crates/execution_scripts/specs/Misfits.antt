-- Where a file's steps are none of its guest, and why: the first that isn't as the file says.
use Rattle.std.specs.Prelude.{◌≡◌, ◌≢◌, ◌⊎◌, ◌+◌, ◌<◌, ◌≤◌, ℕ, List, [], ◌∷◌, ◌++◌, is_some, length, slice_get, take, true, unwrap_or, Option, Some, None}
use Rattle.pages.specs.Memory.{Memory}
use Rattle.round_schedule.specs.declared.event.Event.{Event}
use Rattle.hart_step.specs.declared.hart.Hart.{Hart}
use Rattle.execution.specs.Executions.{Goes, Standing, Stops}
use Rattle.execution_file.specs.Recorded.{HartDeeds, Recorded, Turn}
use Rattle.execution_file.specs.Deeds.{code_of, numbers_of, value_of}
use Rattle.execution_file.specs.Turns.{NamesNone}
use Rattle.execution_scripts.specs.declared.fault.Fault.{Fault}
use Rattle.execution_scripts.specs.declared.fault.Misfit.{Misfit}
use Rattle.execution_scripts.specs.declared.fault.Misfit.TheVariants.{NoCall, NoNumber, NoOperation, NoRound, NoStep, NumbersLeft, OtherExit, OtherNumber, OtherStop, RunsOn, RunsOnWithValue, Stops as StopsThere}
use Rattle.execution_scripts.specs.Following.{AreCalled, AreFollowed, HaveEnded, IsEnd, IsRound, Runs, StopsWith, done_by, line_of, round_from, stop_by}

-- hart h can do an instruction next, in round n; or one that reads this number; or stop
pub record CanGo (image : Memory) (n h : ℕ) (p : Standing) : Type 0 where
  pub after : Standing
  pub goes : Goes image h p after
  pub round : after.round ≡ n

pub record CanRead (image : Memory) (n h read : ℕ) (p : Standing) : Type 0 where
  pub after : Standing
  pub goes : Goes image h p after
  pub round : after.round ≡ n
  pub reads : numbers_of h after.events ≡ numbers_of h p.events ++ read ∷ []

abbrev pub CanStop : Memory → ℕ → ℕ → ℕ → Option ℕ → Standing → Type 0
CanStop image n h code value p = (after : Standing) × StopsWith image n h code value p after

-- the hart can't go on: there is none, or it has stopped
abbrev pub IsOver : ℕ → Standing → Type 0
IsOver h p = (length p.harts ≤ h) ⊎ ((g : Hart) → slice_get p.harts h ≡ Some g → is_some g.stop ≡ true)

-- why hart h goes on otherwise than its line says, in round n
abbrev pub Reason : Type 1
Reason = Misfit → Memory → HartDeeds → ℕ → ℕ → Standing → Type 0

-- why hart h does no next instruction with the next number of its line
abbrev pub IsStepMisfit : Reason
IsStepMisfit NoStep image line n h p = IsOver h p
IsStepMisfit NoNumber image line n h p = (line.reads ≡ numbers_of h p.events) × ((read : ℕ) × CanRead image n h read p)
IsStepMisfit (OtherNumber read said) image line n h p =
    (slice_get line.reads (length (numbers_of h p.events)) ≡ Some said) × (read ≢ said) × CanRead image n h read p
IsStepMisfit _ image line n h p = ⊥

-- why it does no next instruction as its line says: so, or it stops
abbrev pub IsGoMisfit : Reason
IsGoMisfit StopsThere image line n h p = (code : ℕ) × ((value : Option ℕ) × CanStop image n h code value p)
IsGoMisfit misfit image line n h p = IsStepMisfit misfit image line n h p

-- why it does no further call
abbrev pub IsCallMisfit : Reason
IsCallMisfit NoCall image line n h p = line.steps ≤ done_by p h
IsCallMisfit misfit image line n h p = (done_by p h < line.steps) × IsGoMisfit misfit image line n h p

-- it stops with this code and this value, where its line says another end
pub record IsOtherEnd (image : Memory) (line : HartDeeds) (n h code : ℕ) (value : Option ℕ) (p : Standing) : Type 0 where
  pub all : done_by p h ≡ line.steps
  pub said : line.code ≢ 0
  pub stops : CanStop image n h code value p
  pub other : (code ≡ line.code) → (value ≡ line.value) → ⊥

-- it ends as its line says, and the line has more numbers
pub record HasLeft (image : Memory) (line : HartDeeds) (n h : ℕ) (p : Standing) : Type 0 where
  pub all : done_by p h ≡ line.steps
  pub end : Standing
  pub ends : IsEnd image line n h p end
  pub fewer : length (numbers_of h end.events) < length line.reads

-- its line has more steps, or a stop
abbrev pub HasMore : HartDeeds → ℕ → Standing → Type 0
HasMore line h p = (done_by p h < line.steps) ⊎ (line.code ≢ 0)

-- why it doesn't end as its line says
abbrev pub IsEndMisfit : Reason
IsEndMisfit RunsOnWithValue image line n h p = (line.code ≡ 0) × (line.value ≢ None)
IsEndMisfit StopsThere image line n h p = (done_by p h < line.steps) × IsGoMisfit StopsThere image line n h p
IsEndMisfit RunsOn image line n h p = (done_by p h ≡ line.steps) × (line.code ≢ 0) × CanGo image n h p
IsEndMisfit (OtherExit value) image line n h p = IsOtherEnd image line n h 1 (Some value) p
IsEndMisfit (OtherStop code) image line n h p = IsOtherEnd image line n h code None p
IsEndMisfit NumbersLeft image line n h p = HasLeft image line n h p
IsEndMisfit misfit image line n h p = HasMore line h p × IsStepMisfit misfit image line n h p

-- ---- the place of a fault

-- hart h has done so many instructions up to p, and then there is this misfit
pub record IsFaultAt (Why : Reason) (image : Memory) (line : HartDeeds) (n h : ℕ) (p : Standing) (f : Fault) : Type 0 where
  pub hart : f.hart ≡ h
  pub step : f.step ≡ done_by p h
  pub why : Why f.misfit image line n h p

-- it does some instructions as its line says, k calls among them, up to where there is the misfit
pub record IsFaultAfter (Why : Reason) (image : Memory) (line : HartDeeds) (n h k : ℕ) (from : Standing) (f : Fault) : Type 0 where
  pub place : Standing
  pub runs : Runs image line n h k from place
  pub fault : IsFaultAt Why image line n h place f

-- the round of a call is none
pub record HasNoRound (n : ℕ) (u : Turn) (p : Standing) (f : Fault) : Type 0 where
  pub misfit : f.misfit ≡ NoRound
  pub hart : f.hart ≡ u.hart
  pub step : f.step ≡ done_by p u.hart
  pub none : IsRound n u.number → ⊥

-- the call of a turn isn't done: its round is none, or the hart doesn't get to it
abbrev pub IsUncalled : Memory → List HartDeeds → ℕ → Turn → Standing → Fault → Type 0
IsUncalled image lines n u from f =
    HasNoRound n u from f
    ⊎ (IsRound n u.number × IsFaultAfter IsCallMisfit image (line_of lines u.hart) (round_from n u.number) u.hart 0 from f)

-- the calls before one of the turns are done, and its call isn't
pub record StopsInCall (image : Memory) (lines : List HartDeeds) (turns : List Turn) (start : Standing) (f : Fault) : Type 0 where
  pub index : ℕ
  pub turn : Turn
  pub is_turn : slice_get turns index ≡ Some turn
  pub round : ℕ
  pub from : Standing
  pub before : AreCalled image lines start (take index turns) round from
  pub why : IsUncalled image lines round turn from f

-- all calls are done, and the harts before one of the harts have ended, and that hart doesn't end as its line says
pub record StopsInEnd (image : Memory) (lines : List HartDeeds) (turns : List Turn) (start : Standing) (f : Fault) : Type 0 where
  pub hart : ℕ
  pub within : hart < length lines
  pub round : ℕ
  pub called : Standing
  pub calls : AreCalled image lines start turns round called
  pub from : Standing
  pub before : HaveEnded image lines round called hart from
  pub more_calls : ℕ
  pub why : IsFaultAfter IsEndMisfit image (line_of lines hart) round hart more_calls from f

-- the calls or the ends aren't as the lines and the turns say
abbrev pub IsUnfollowed : Memory → List HartDeeds → List Turn → Standing → Fault → Type 0
IsUnfollowed image lines turns start f = StopsInCall image lines turns start f ⊎ StopsInEnd image lines turns start f

-- a turn of the order is the first that names no operation of these events
pub record IsUnnamed (order : List Turn) (t : List Event) (f : Fault) : Type 0 where
  pub misfit : f.misfit ≡ NoOperation
  pub index : ℕ
  pub none : NamesNone order t index
  pub turn : Turn
  pub is_turn : slice_get order index ≡ Some turn
  pub hart : f.hart ≡ turn.hart
  pub step : f.step ≡ unwrap_or turn.number 0

-- all is as the lines and the calls say, but not the order
pub record NamesNothing (image : Memory) (r : Recorded) (start : Standing) (f : Fault) : Type 0 where
  pub end : Standing
  pub followed : AreFollowed image r.harts r.calls start end
  pub unnamed : IsUnnamed r.order end.events f

-- following a file from a start leads to where a step isn't as the file says, as the fault says it
abbrev pub IsUnsaid : Memory → Recorded → Standing → Fault → Type 0
IsUnsaid image r start f = IsUnfollowed image r.harts r.calls start f ⊎ NamesNothing image r start f
