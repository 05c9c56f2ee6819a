-- What `draw` shows of a run.
use Rattle.std.specs.Prelude.{◌≡◌, ◌-◌, ◌^◌, List, Option, map, unwrap_or, ℕ}
use Rattle.command_line.specs.declared.settings.Bytes.{Bytes}
use Rattle.command_line.specs.declared.settings.Draw.{Draw}
use Rattle.drawing.specs.Drawn.{picture_after}
use Rattle.program_files.specs.Naming.{IsNaming, named_in}
use Rattle.program_files.specs.declared.fault.NamingFault.{NamingFault}
use Rattle.pages.specs.declared.access.Range.{Range}
use Rattle.picture.specs.declared.view.View.{View}
use Rattle.program_files.specs.Asked.{SetRun}

-- the names of the objects that are looked at
abbrev pub names_of : Draw → List (List ℕ)
names_of asked = map (λ s. s.now) asked.objects.items

-- what is wrong with the bytes that the line names, in memory of so many pages
abbrev pub IsNamed : Draw → List ℕ → ℕ → Option NamingFault → Type 0
IsNamed asked image pages fault = IsNaming image pages asked.seen.items (names_of asked) fault

abbrev pub range_of : Bytes → Range
range_of b = record { start = b.address; len = b.length }

-- the ranges of these bytes
abbrev pub ranges_of : Draw → List ℕ → List Range
ranges_of asked image = map range_of (named_in image asked.seen.items (names_of asked))

-- the view has the rounds of the line, and all of them where it names none
pub record HasRounds (asked : Draw) (v : View) : Type 0 where
  pub from : v.from ≡ unwrap_or asked.from 0
  pub to : v.to ≡ unwrap_or asked.to (2 ^ 32 - 1)

-- a run by what the line says, and what it shows of it
pub record SetDraw (asked : Draw) (image text : List ℕ) (budget : ℕ) : Type 0 where
  pub run : SetRun asked.run.program text budget
  pub view : View
  pub ranges : view.ranges.now ≡ ranges_of asked image
  pub rounds : HasRounds asked view

-- the picture of this run
abbrev pub drawn_text : {asked : Draw} {image text : List ℕ} {budget : ℕ} → List ℕ → SetDraw asked image text budget → List ℕ
drawn_text {asked} {image} input d = picture_after d.run.settings image input d.run.plan d.view
