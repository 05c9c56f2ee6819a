-- The comparison that `compare` prints, and why it ends without it. `failed` says that the output failed.
use Rattle.std.specs.Prelude.{◌≡◌, ◌⊎◌, List, ℕ}
use Rattle.command_line.specs.declared.settings.Compare.{Compare}
use Rattle.hunt_commands.specs.Merges.{HoldsTable, IsUntabled}
use Rattle.program_files.specs.declared.failure.CommandFailure.{CommandFailure}
use Rattle.hunt_commands.specs.declared.table_files.TableFile.{TableFile}
use Rattle.hunt_comparison.specs.Text.{comparison_text}
use Rattle.hunt_comparison.specs.Twins.{AreCompared}
use Rattle.hunt_comparison.specs.Unlikes.{IsLike, IsUnlike}
use Rattle.program_files.specs.declared.failure.CommandFailure.TheVariants as failures
use Rattle.hunt_comparison.specs.declared.twins.Compared.{Compared}
use Rattle.hunt_table.specs.declared.table.Table.{Table}
use Rattle.program_files.specs.declared.reasons.Unlike.{Unlike}
use Rattle.program_files.specs.Failures.{IsCutEnd}
use Rattle.program_files.specs.Relations.{FileRelations}

-- the files of the paths held these tables
pub record GivenTables (files : FileRelations) (asked : Compare) : Type 0 where
  pub old : TableFile
  pub new : TableFile
  pub of_old : old.path.now ≡ asked.old.now
  pub of_new : new.path.now ≡ asked.new.now
  pub old_held : HoldsTable files old
  pub new_held : HoldsTable files new

-- the rows of each of two tables, with their twins in the other one
pub record ComparedTables (old new : Table) : Type 0 where
  pub olds : List Compared
  pub news : List Compared
  pub like : IsLike old new
  pub of_old : AreCompared old.rows.items new.rows.items olds
  pub of_new : AreCompared new.rows.items old.rows.items news

-- the comparison that a line asks for
pub record AskedComparison (files : FileRelations) (asked : Compare) : Type 0 where
  pub given : GivenTables files asked
  pub made : ComparedTables given.old.table given.new.table

-- its text
abbrev pub compared_text : {old new : Table} → ComparedTables old new → List ℕ
compared_text {old} {new} c = comparison_text old.header new.header c.olds c.news

-- the table of a path wasn't read, or the output failed, or memory is refused
abbrev pub IsUnread : FileRelations → Compare → Type 0 → CommandFailure → Type 0
IsUnread files asked failed failure =
    IsUntabled files asked.old.now failure ⊎ IsUntabled files asked.new.now failure ⊎ IsCutEnd failed failure

-- why the command ends without its comparison
abbrev pub EndsComparison : FileRelations → Compare → Type 0 → CommandFailure → Type 0
EndsComparison files asked failed failure = IsUnread files asked failed failure
    ⊎ ((why : Unlike) × (failure ≡ failures.Unlike why) × (g : GivenTables files asked) × IsUnlike why g.old.table g.new.table)

-- the same where both tables were read
abbrev pub IsComparedEnd : Table → Table → Type 0 → CommandFailure → Type 0
IsComparedEnd old new failed (failures.Unlike why) = IsUnlike why old new
IsComparedEnd old new failed failure = IsCutEnd failed failure
