-- Which tables can be compared.
use Rattle.std.specs.Prelude.{◌≡◌, ◌≢◌, Option, Some, None}
use Rattle.program_files.specs.declared.reasons.Unlike.{Unlike}
use Rattle.program_files.specs.declared.reasons.Unlike.TheVariants.{Harts, Bytes}
use Rattle.hunt_table.specs.Merging.{harts_of}
use Rattle.hunt_table.specs.Ranges.{AreAlike}
use Rattle.hunt_table.specs.declared.table.Table.{Table}

-- they are of as many harts, and have the same bytes that are looked at, wherever objects lie
pub record IsLike (old new : Table) : Type 0 where
  pub harts : harts_of old.rows.items ≡ harts_of new.rows.items
  pub ranges : AreAlike old.header.ranges.items new.header.ranges.items

-- why they can't be; for the harts before the bytes
abbrev pub IsUnlike : Unlike → Table → Table → Type 0
IsUnlike Harts old new = harts_of old.rows.items ≢ harts_of new.rows.items
IsUnlike Bytes old new = (harts_of old.rows.items ≡ harts_of new.rows.items) × (AreAlike old.header.ranges.items new.header.ranges.items → ⊥)

abbrev pub IsUnlikeness : Table → Table → Option Unlike → Type 0
IsUnlikeness old new None = IsLike old new
IsUnlikeness old new (Some why) = IsUnlike why old new
