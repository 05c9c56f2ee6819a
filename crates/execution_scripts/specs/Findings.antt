-- What is found of a file.
use Rattle.std.specs.Prelude.{◌≡◌, ◌≢◌, ◌⊎◌, ℕ, if◌then◌else◌, List, length, map, slice_index, Option}
use Rattle.elf_loader.specs.Image.{Loaded}
use Rattle.round_planner.specs.declared.settings.Format.TheVariants.{Elf, Flat}
use Rattle.round_planner.specs.Settings.{image_of}
use Rattle.guest_rounds.specs.Guests.{Guest, opening_guest}
use Rattle.execution.specs.Executions.{Standing}
use Rattle.execution.specs.declared.step.ScriptedStep.{ScriptedStep}
use Rattle.execution.specs.Progressing.{at_start}
use Rattle.execution_checker.specs.declared.verdict.Verdict.{Verdict}
use Rattle.execution_checker.specs.Allowed.{Allows, Follows, IsVerdict}
use Rattle.execution_views.specs.declared.sights.HartStep.{HartStep}
use Rattle.execution_views.specs.Walks.{AreSights}
use Rattle.trace.specs.Traced.{opening_at}
use Rattle.round_schedule.specs.declared.event.Event.{Event}
use Rattle.execution_file.specs.Recorded.{HartDeeds, Recorded, Turn}
use Rattle.execution_file.specs.Deeds.{deeds}
use Rattle.execution_file.specs.Turns.{AreNames}
use Rattle.execution_scripts.specs.Following.{AreFollowed}
use Rattle.execution_scripts.specs.Misfits.{IsUnnamed, IsUnsaid}
use Rattle.execution_scripts.specs.declared.checking.Checked.{Checked}
use Rattle.execution_scripts.specs.declared.checking.Finding.{Finding}
use Rattle.execution_scripts.specs.declared.checking.Finding.TheVariants.{Fault, Judged}
use Rattle.execution_scripts.specs.declared.fault.Misfit.TheVariants.{Otherwise}
use Rattle.execution_scripts.specs.declared.said.Said.{Said}
use Rattle.execution_scripts.specs.declared.said.Said.TheVariants as said

-- the image of a file
abbrev pub image_in : Recorded → Loaded
image_in r = image_of (if r.flat then Flat else Elf) r.image r.pages

-- its guest before the first instruction: memory as the image opens it, the input, and as many harts as it has, at the entry
abbrev pub guest_in : Recorded → Guest
guest_in r = opening_guest (image_in r) r.input (length r.harts)

-- where a guest's executions begin
abbrev pub start_of : Guest → Standing
start_of g = at_start g.harts g.shared.console

-- the harts do what is said of them: so many steps, these numbers read, and these ends; and the turns name the order g of their memory
-- operations
pub record IsAsSaid (parts : List HartDeeds) (turns : List Turn) (q : Standing) (g : List ℕ) : Type 0 where
  pub harts : parts ≡ deeds q.harts q.events
  pub order : AreNames turns q.events g

-- the order that turns name, or the first turn that names no operation
abbrev pub IsNamedBy : List Turn → List Event → Said → Type 0
IsNamedBy turns t (said.Order g) = AreNames turns t g.0.items
IsNamedBy turns t (said.Fault f) = IsUnnamed turns t f

-- the order that a file says of an execution; or why it says another one: a hart did otherwise, or a turn names no operation
abbrev pub IsSaid : List HartDeeds → List Turn → Standing → Said → Type 0
IsSaid parts turns q (said.Order g) = IsAsSaid parts turns q g.0.items
IsSaid parts turns q (said.Fault f) = ((f.misfit ≡ Otherwise) × (parts ≢ deeds q.harts q.events)) ⊎ IsUnnamed turns q.events f

-- a verdict is on the execution of a guest that a script leads to, in an order of its memory operations; both are as the file says, whose
-- lines and calls lead there too; and what is seen is seen on the way of this execution
pub record IsJudged (g : Guest) (r : Recorded) (asked : Option HartStep) (v : Verdict) (c : Checked) : Type 0 where
  pub verdict : IsVerdict v g.shared.memory (λ x. slice_index g.shared.memory.bytes x) c.script.items c.order.0.items (start_of g) c.execution.standing
  pub followed : AreFollowed g.shared.memory r.harts r.calls (start_of g) c.execution.standing
  pub as_said : IsAsSaid r.harts r.order c.execution.standing c.order.0.items
  pub opening : (x : ℕ) → opening_at c.opening.opening x ≡ slice_index g.shared.memory.bytes x
  pub sights : AreSights g.shared.memory (start_of g) c.execution.standing asked c.sights

-- such a verdict, or the first step that isn't as the file says
abbrev pub IsFound : Guest → Recorded → Option HartStep → Finding → Checked → Type 0
IsFound g r asked (Judged v) c = IsJudged g r asked v c
IsFound g r asked (Fault f) c = IsUnsaid g.shared.memory r (start_of g) f

-- RVWMO allows the execution that a file says: a script leads the file's guest to where its harts have done what the file says of them, and
-- the order of its memory operations that the file's turns name is one that RVWMO allows
pub record IsAllowedFile (r : Recorded) : Type 0 where
  pub script : List ScriptedStep
  pub order : List ℕ
  pub end : Standing
  pub follows : Follows (guest_in r).shared.memory script (start_of (guest_in r)) end
  pub allows : Allows (λ x. slice_index (guest_in r).shared.memory.bytes x) end order
  pub as_said : IsAsSaid r.harts r.order end order
