-- What a search for all endings tells.
use Rattle.std.specs.Prelude.{◌≡◌, ℕ, List, [], All, false, Bool, if◌then◌else◌, length, map}
use Rattle.all_endings.specs.Endings.{AllEndingsWithin}
use Rattle.ending_judge.specs.JudgedEndings.{IsAllowedFrom, ending_in, ranges_of}
use Rattle.execution_file.specs.declared.file.ExecutionFile.{ExecutionFile}
use Rattle.execution_scripts.specs.Findings.{start_of}
use Rattle.execution_makers.specs.declared.scripted.ScriptedGuest.{ScriptedGuest}
use Rattle.endings_table.specs.Text.{table_text}
use Rattle.elf_loader.specs.Image.{Loaded}
use Rattle.endings_table.specs.declared.fence_need.FenceNeed.{FenceNeed}
use Rattle.endings_table.specs.declared.found_ending.FoundEnding.{FoundEnding}
use Rattle.endings_table.specs.declared.others.Others.TheVariants.{Absent}
use Rattle.endings_table.specs.declared.table.EndingsTable.{EndingsTable}
use Rattle.endings_finder.specs.Fences.{IsToldFence}
use Rattle.endings_finder.specs.declared.finding.FoundEndings.{FoundEndings}
use Rattle.endings_finder.specs.declared.settings.EndingsSettings.{EndingsSettings}
use Rattle.guest_rounds.specs.Guests.{Guest, opening_guest}
use Rattle.hunt_table.specs.declared.seen_range.SeenRange.{SeenRange}
use Rattle.hunter.specs.declared.settings.HuntSettings.{HuntSettings}
use Rattle.round_planner.specs.Settings.{image_of}

-- the guest of a file and an input before its first instruction
abbrev pub guest_of : HuntSettings → List ℕ → List ℕ → Guest
guest_of s file input = opening_guest (image_of s.format file s.pages) input s.harts

-- the guest of a program in memory, with the harts and the input of a script's guest
abbrev pub guest_from : Loaded → ScriptedGuest → Guest
guest_from program g = opening_guest program g.input.now g.harts

-- the image of a script's guest
abbrev pub scripted_image : ScriptedGuest → Loaded
scripted_image g = image_of g.format g.image.now g.pages

-- RVWMO allows an execution of the guest that ends so
abbrev pub CanEnd : Guest → List SeenRange → FoundEnding → Type 0
CanEnd g ranges e = IsAllowedFrom g.shared.memory (start_of g) (ranges_of ranges) (ending_in e)

abbrev pub AreAllowed : Guest → List SeenRange → List FoundEnding → Type 0
AreAllowed g ranges es = All (CanEnd g ranges) es

-- an execution is kept of each ending, or of none
abbrev pub AreKept : Bool → List FoundEnding → List ExecutionFile → Type 0
AreKept keeps es files = length files ≡ (if keeps then length es else 0)

-- endings that RVWMO allows, of each of which an execution is kept, or of none
pub record AreConfirmed (g : Guest) (ranges : List SeenRange) (keeps : Bool) (es : List FoundEnding) (files : List ExecutionFile) : Type 0 where
  pub allowed : AreAllowed g ranges es
  pub kept : AreKept keeps es files

-- the endings are those of all executions that RVWMO allows in which all harts stop, and none does more than k instructions
abbrev pub HasAll : Guest → List SeenRange → ℕ → List FoundEnding → Type 0
HasAll g ranges k es = AllEndingsWithin k g.shared.memory g.harts g.shared.console (ranges_of ranges) (map ending_in es)

-- what is told of each of these fences is so
abbrev pub AreToldFences : EndingsSettings → List ℕ → List ℕ → List FenceNeed → Type 0
AreToldFences s file input fences = All (IsToldFence s.steps (image_of s.hunt.format file s.hunt.pages) input s.hunt.harts s.hunt.header.ranges.items) fences

-- the table of a search: it has the harts, the bound and the ranges that were asked for; RVWMO allows an execution that ends so for each of its
-- endings; where it says that there are no others, there are none within the bound; and what it tells of fences is so, if they were asked for
pub record IsSearched (s : EndingsSettings) (file input : List ℕ) (t : EndingsTable) : Type 0 where
  pub harts : t.harts ≡ s.hunt.harts
  pub steps : t.steps ≡ s.steps
  pub ranges : t.ranges.items ≡ s.hunt.header.ranges.items
  pub allowed : AreAllowed (guest_of s.hunt file input) s.hunt.header.ranges.items t.endings.items
  pub whole : t.others ≡ Absent → HasAll (guest_of s.hunt file input) s.hunt.header.ranges.items s.steps t.endings.items
  pub unasked : s.fences ≡ false → t.fences.items ≡ []
  pub fences : AreToldFences s file input t.fences.items

-- what was found has such a table, with an execution of each ending where they are asked for, and this is its text
pub record IsSearchText (s : EndingsSettings) (file input : List ℕ) (found : FoundEndings) (text : List ℕ) : Type 0 where
  pub table : IsSearched s file input found.table
  pub kept : AreKept s.keeps found.table.endings.items found.executions.items
  pub is_text : text ≡ table_text found.table
