-- The settings of the hunts and other searches that a line asks for.
use Rattle.std.specs.Prelude.{◌≡◌, ◌++◌, ℕ, List, map, Bool, if◌then◌else◌, Option, None, Some, is_some}
use Rattle.command_line.specs.declared.settings.Hunt.{Hunt}
use Rattle.command_line.specs.declared.settings.HuntUntil.{HuntUntil}
use Rattle.command_line.specs.declared.settings.HuntUntil.TheVariants as asked
use Rattle.command_line.specs.declared.settings.Program.{Program}
use Rattle.command_line.specs.declared.settings.Search.{Search}
use Rattle.hunter.specs.declared.settings.HuntSettings.{HuntSettings}
use Rattle.plan_hunt.specs.declared.extent.Until.{Until}
use Rattle.plan_hunt.specs.declared.extent.Until.TheVariants.{Bad, Differ, Done}
use Rattle.round_planner.specs.declared.settings.Format.TheVariants.{Elf, Flat}
use Rattle.program_files.specs.Naming.{IsNaming, by_address, by_name, objects_in}
use Rattle.program_files.specs.declared.fault.NamingFault.{NamingFault}

-- the settings have what the line says of the program, and the seed
pub record IsOfProgram (program : Program) (seed : ℕ) (s : HuntSettings) : Type 0 where
  pub format : s.format ≡ (if program.flat then Flat else Elf)
  pub harts : s.harts ≡ program.harts
  pub pages : s.pages ≡ program.pages
  pub rounds : s.rounds ≡ program.rounds
  pub workers : s.workers ≡ program.workers
  pub is_seed : s.header.seed ≡ seed

-- they are those of a hunt by so many plans from a first one on, which is weak or not
pub record HasNumbers (search : Search) (first count : ℕ) (weak : Bool) (s : HuntSettings) : Type 0 where
  pub program : IsOfProgram search.program search.seed s
  pub is_first : s.header.first ≡ first
  pub is_count : s.header.count ≡ count
  pub is_weak : s.header.is_weak ≡ weak

-- with which ending a hunt is over before its last number
abbrev pub until_of : Option HuntUntil → Until
until_of None = Done
until_of (Some asked.Bad) = Bad
until_of (Some asked.Differ) = Differ

-- the hunt is over where the line says: with such an ending, or where the seconds that it gives are
pub record HasEnd (hunt : Hunt) (s : HuntSettings) : Type 0 where
  pub until : s.until ≡ until_of hunt.until
  pub is_timed : s.is_timed ≡ is_some hunt.seconds

-- the names of the objects that are looked at
abbrev pub names_of : Search → List (List ℕ)
names_of search = map (λ s. s.now) search.objects.items

-- what is wrong with the bytes that the line names
abbrev pub IsNamed : Search → List ℕ → Option NamingFault → Type 0
IsNamed search image fault = IsNaming image search.program.pages search.seen.items (names_of search) fault

-- nothing is wrong with them, and the settings have them as ranges: those that are named by addresses, and then the objects
pub record HasRanges (search : Search) (image : List ℕ) (s : HuntSettings) : Type 0 where
  pub sound : IsNamed search image None
  pub ranges : s.header.ranges.items ≡ map by_address search.seen.items ++ by_name (objects_in image (names_of search)) (names_of search)
