-- The smaller plan that `shrink` prints, and why it ends without it.
use Rattle.std.specs.Prelude.{◌⊎◌, ℕ, List, false}
use Rattle.command_line.specs.declared.settings.Shrink.{Shrink}
use Rattle.hunt_commands.specs.Asked.{RefusedSearch}
use Rattle.hunt_commands.specs.Settings.{HasNumbers, HasRanges}
use Rattle.program_files.specs.declared.failure.CommandFailure.{CommandFailure}
use Rattle.hunter.specs.Hunts.{ends_under, family_of, shrink_fault}
use Rattle.hunter.specs.declared.settings.HuntSettings.{HuntSettings}
use Rattle.round_planner.specs.Families.{family_plan}
use Rattle.plan_hunt.specs.Steps.{IsShrunk}
use Rattle.program_files.specs.Asked.{IsFileOfProgram, IsProgramOf, LacksSpurious}
use Rattle.program_files.specs.Failures.{IsCutEnd, IsFileFailure}
use Rattle.program_files.specs.Relations.{FileRelations}
use Rattle.round_planner.specs.PlanText.{plan_text}
use Rattle.round_planner.specs.Quotas.{Planned}

-- a search for a smaller plan by what the line says: its settings, and the plan
pub record SetShrink (asked : Shrink) (image input : List ℕ) : Type 0 where
  pub settings : HuntSettings
  pub plan : Planned
  pub numbers : HasNumbers asked.search asked.plan_number 1 false settings
  pub ranges : HasRanges asked.search image settings
  pub shrunk : IsShrunk (ends_under settings image input) (family_plan (family_of settings) asked.plan_number) plan

-- the text of this plan
abbrev pub shrunk_text : {asked : Shrink} {image input : List ℕ} → SetShrink asked image input → List ℕ
shrunk_text s = plan_text s.plan.rows

-- the search that a line asks for
pub record AskedShrink (files : FileRelations) (asked : Shrink) : Type 0 where
  pub image : List ℕ
  pub input : List ℕ
  pub given : IsProgramOf files asked.search.program image input
  pub made : SetShrink asked image input

-- why it ends without a plan, where its files were read: there is no output yet that could fail
abbrev pub IsShrinkEnd : Shrink → List ℕ → CommandFailure → Type 0
IsShrinkEnd asked image f = IsCutEnd ⊥ f ⊎ RefusedSearch asked.search asked.plan_number 1 false shrink_fault image ⊥ f

-- the search that a line asks for is refused
pub record RefusedShrink (files : FileRelations) (asked : Shrink) (f : CommandFailure) : Type 0 where
  pub image : List ℕ
  pub input : List ℕ
  pub given : IsProgramOf files asked.search.program image input
  pub refused : RefusedSearch asked.search asked.plan_number 1 false shrink_fault image ⊥ f

-- why the command ends without a plan
abbrev pub EndsShrink : FileRelations → Shrink → Type 0 → CommandFailure → Type 0
EndsShrink files asked failed f =
    IsFileFailure files (IsFileOfProgram asked.search.program) (LacksSpurious files asked.search.program) f ⊎ IsCutEnd failed f
    ⊎ RefusedShrink files asked f
