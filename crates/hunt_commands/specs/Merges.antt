-- The table that `merge` prints, and why it ends without it. `world` says what files hold, and `failed` that the output failed.
use Rattle.std.specs.Prelude.{◌≡◌, ◌≢◌, ◌⊎◌, ◌≤◌, ◌<◌, ◌+◌, ◌-◌, ◌++◌, ◌∷◌, All, IsPermutation, List, None, Option, Some, length, map, slice_index_or, string_bytes, ℕ}
use Rattle.std.specs.Global.{Vec}
use Rattle.std.specs.List.Sorted.{IsNonDecreasingBy, IsStableByKey}
use Rattle.std.specs.Ordering.{nat_cmp}
use Rattle.command_line.specs.declared.settings.Merge.{Merge}
use Rattle.host_io.specs.declared.error.RunError.TheVariants as refusals
use Rattle.program_files.specs.declared.failure.CommandFailure.{CommandFailure}
use Rattle.program_files.specs.declared.failure.CommandFailure.TheVariants as failures
use Rattle.program_files.specs.declared.reasons.Apart.{Apart}
use Rattle.program_files.specs.declared.reasons.Apart.TheVariants as causes
use Rattle.hunt_commands.specs.declared.table_files.TableFile.{TableFile}
use Rattle.hunt_table.specs.Merging.{AreApart, AreMerged, IsFirstNoTable, IsFirstOfOther, IsNoTable, IsOfHunt, harts_of}
use Rattle.hunt_table.specs.Text.{IsTextOf, table_text}
use Rattle.hunt_table.specs.declared.merge_error.MergeError.{MergeError}
use Rattle.hunt_table.specs.declared.merge_error.MergeError.TheVariants as merging
use Rattle.hunt_table.specs.declared.table.Table.{Table}
use Rattle.program_files.specs.Failures.{IsCutEnd, IsFileFailure}
use Rattle.program_files.specs.Relations.{FileRelations}

-- ---- the tables of a line

abbrev pub paths_of : Merge → List (List ℕ)
paths_of asked = map (λ s. s.now) asked.tables.items

abbrev pub path_of : TableFile → List ℕ
path_of f = f.path.now

abbrev pub text_of : TableFile → Vec ℕ
text_of f = f.text

-- the file held a text of the table
pub record HoldsTable (world : FileRelations) (f : TableFile) : Type 0 where
  pub held : world.holds f.path.now f.text.items
  pub is_text : IsTextOf f.table.header f.table.rows.items f.text.items

-- the files are those of the paths, and they held these tables
pub record AreRead (world : FileRelations) (paths : List (List ℕ)) (files : List TableFile) : Type 0 where
  pub of_paths : map path_of files ≡ paths
  pub held : All (HoldsTable world) files

abbrev pub first_plan : TableFile → ℕ
first_plan f = f.table.header.first

-- the files are those of the paths in the order of their tables' first plans; those of one first plan stay in the order of the paths
pub record AreTables (world : FileRelations) (paths : List (List ℕ)) (files : List TableFile) : Type 0 where
  pub named : List TableFile
  pub read : AreRead world paths named
  pub same : IsPermutation named files
  pub in_order : IsNonDecreasingBy first_plan files
  pub stable : IsStableByKey first_plan nat_cmp named files

-- ---- the table of them all

-- a table that those of the files are merged to
pub record SetMerge (files : List TableFile) : Type 0 where
  pub table : Table
  pub merged : AreMerged (map text_of files) table

-- the text of it
abbrev pub merged_text : {files : List TableFile} → SetMerge files → List ℕ
merged_text m = table_text m.table.header m.table.rows.items

-- the merge that a line asks for
pub record AskedMerge (world : FileRelations) (asked : Merge) : Type 0 where
  pub files : List TableFile
  pub tables : AreTables world (paths_of asked) files
  pub made : SetMerge files

-- ---- tables apart

-- a table is of the same hunt as another one
abbrev pub IsOfHuntOf : Table → Table → Type 0
IsOfHuntOf last next = IsOfHunt last.header.program last.header.is_weak last.header.seed last.header.ranges.items (harts_of last.rows.items) next

-- the plan after the last one of a table
abbrev pub end_of : Table → ℕ
end_of t = t.header.first + t.header.count

-- a table is that of the slice which follows on another one
pub record GoesOn (last next : Table) : Type 0 where
  pub hunt : IsOfHuntOf last next
  pub plans : next.header.first ≡ end_of last

-- it isn't, for this cause and for none of those before it
abbrev pub IsApart : Apart → Table → Table → Type 0
IsApart causes.Program last next = next.header.program ≢ last.header.program
IsApart causes.Kind last next = (next.header.program ≡ last.header.program) × (next.header.is_weak ≢ last.header.is_weak)
IsApart causes.Seed last next =
    (next.header.program ≡ last.header.program) × (next.header.is_weak ≡ last.header.is_weak) × (next.header.seed ≢ last.header.seed)
IsApart causes.Bytes last next =
    (next.header.program ≡ last.header.program) × (next.header.is_weak ≡ last.header.is_weak) × (next.header.seed ≡ last.header.seed)
    × (next.header.ranges.items ≢ last.header.ranges.items)
IsApart causes.Harts last next =
    (next.header.program ≡ last.header.program) × (next.header.is_weak ≡ last.header.is_weak) × (next.header.seed ≡ last.header.seed) × (next.header.ranges.items ≡ last.header.ranges.items)
    × (harts_of next.rows.items ≢ harts_of last.rows.items)
IsApart causes.Gap last next = IsOfHuntOf last next × (end_of last < next.header.first)
IsApart causes.Overlap last next = IsOfHuntOf last next × (next.header.first < end_of last)

abbrev pub IsApartFor : Option Apart → Table → Table → Type 0
IsApartFor None last next = GoesOn last next
IsApartFor (Some why) last next = IsApart why last next

-- the table at a index goes on where the one before it ends
abbrev pub GoesOnAt : List TableFile → ℕ → Type 0
GoesOnAt files index = (d : TableFile) → GoesOn (slice_index_or files (index - 1) d).table (slice_index_or files index d).table

-- those at the places from 1 on up to this one do so
abbrev pub GoOnUpTo : List TableFile → ℕ → Type 0
GoOnUpTo files end = (index : ℕ) → 1 ≤ index → index < end → GoesOnAt files index

-- the one at this index is the first that doesn't, for this cause
pub record IsFirstApartAt (files : List TableFile) (index : ℕ) (why : Apart) : Type 0 where
  pub some : 1 ≤ index
  pub there : index < length files
  pub before : GoOnUpTo files index
  pub apart : (d : TableFile) → IsApart why (slice_index_or files (index - 1) d).table (slice_index_or files index d).table

abbrev pub HasFirstApart : List TableFile → Option (ℕ × Apart) → Type 0
HasFirstApart files None = GoOnUpTo files (length files)
HasFirstApart files (Some first) = IsFirstApartAt files first.0 first.1

-- the tables of these two paths are the first two neighbours of which the second doesn't go on where the first ends, for this cause
pub record AreFirstApart (files : List TableFile) (last next : List ℕ) (why : Apart) : Type 0 where
  pub index : ℕ
  pub first : IsFirstApartAt files index why
  pub is_last : (d : TableFile) → last ≡ path_of (slice_index_or files (index - 1) d)
  pub is_next : (d : TableFile) → next ≡ path_of (slice_index_or files index d)

-- ---- refusals

-- the file of a path held no table
abbrev pub HoldsNone : FileRelations → List ℕ → CommandFailure → Type 0
HoldsNone world path (failures.NotATable named) = (string_bytes named ≡ path) × (text : List ℕ) × world.holds path text × IsNoTable text
HoldsNone world path _ = ⊥

-- that, or it can't be read
abbrev pub IsUntabled : FileRelations → List ℕ → CommandFailure → Type 0
IsUntabled world path failure = IsFileFailure world (λ named. named ≡ path) ⊥ failure ⊎ HoldsNone world path failure

-- of the paths, this one is the first whose file held no table
pub record IsFirstUntabled (world : FileRelations) (paths : List (List ℕ)) (path : List ℕ) : Type 0 where
  pub before : List TableFile
  pub after : List (List ℕ)
  pub stands : paths ≡ map path_of before ++ path ∷ after
  pub tables : All (HoldsTable world) before
  pub text : List ℕ
  pub held : world.holds path text
  pub no_table : IsNoTable text

-- it is one of the paths
abbrev pub IsOneOf : List (List ℕ) → List ℕ → Type 0
IsOneOf paths path = (before : List (List ℕ)) × (after : List (List ℕ)) × (paths ≡ before ++ path ∷ after)

-- the file that is told is the first of the paths' that held no table
abbrev pub TellsFirst : FileRelations → List (List ℕ) → CommandFailure → Type 0
TellsFirst world paths (failures.NotATable path) = IsFirstUntabled world paths (string_bytes path)
TellsFirst world paths _ = ⊥

-- why not all files give a table
abbrev pub IsReadEnd : FileRelations → List (List ℕ) → CommandFailure → Type 0
IsReadEnd world paths failure = IsFileFailure world (IsOneOf paths) ⊥ failure ⊎ TellsFirst world paths failure

-- why texts aren't merged that are those of tables of which each goes on where the one before it ends
abbrev pub IsRefusal : MergeError → List (Vec ℕ) → Type 0
IsRefusal (merging.Run error) texts = ⊥
IsRefusal merging.NotATable texts = IsFirstNoTable texts
IsRefusal merging.Apart texts = AreApart texts
IsRefusal merging.OtherProgram texts = IsFirstOfOther texts

-- two of the files have tables apart: those that are told
abbrev pub TellsApart : List TableFile → CommandFailure → Type 0
TellsApart files (failures.Apart last next why) = AreFirstApart files (string_bytes last) (string_bytes next) why
TellsApart files _ = ⊥

-- or else their merge is refused
abbrev pub TellsRefusal : List TableFile → CommandFailure → Type 0
TellsRefusal files (failures.Merge error) = GoOnUpTo files (length files) × IsRefusal error (map text_of files)
TellsRefusal files _ = ⊥

-- why the tables of these files aren't merged: for that; or memory is refused, or the output failed
abbrev pub IsMergeEnd : List TableFile → Type 0 → CommandFailure → Type 0
IsMergeEnd files failed failure = IsCutEnd failed failure ⊎ TellsApart files failure ⊎ TellsRefusal files failure

-- the same of the files of a line
pub record IsRefusedMerge (world : FileRelations) (asked : Merge) (failed : Type 0) (f : CommandFailure) : Type 0 where
  pub files : List TableFile
  pub tables : AreTables world (paths_of asked) files
  pub refused : IsMergeEnd files failed f

-- why the command ends without its table
abbrev pub EndsMerge : FileRelations → Merge → Type 0 → CommandFailure → Type 0
EndsMerge world asked failed failure = IsReadEnd world (paths_of asked) failure ⊎ IsCutEnd failed failure ⊎ IsRefusedMerge world asked failed failure
