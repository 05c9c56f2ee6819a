-- Endings of a guest: which of them are bad.
use Rattle.std.specs.Prelude.{ℕ, ◌==◌, ◌&&◌, not, Bool, false}
use Rattle.std.specs.List.{list_all}
use Rattle.endings_table.specs.declared.found_ending.FoundEnding.{FoundEnding}
use Rattle.endings_table.specs.declared.hart_end.HartEnd.{HartEnd}
use Rattle.endings_table.specs.declared.hart_end.HartEnd.TheVariants.{Stopped, Waits}

-- whether a hart exits with 0
abbrev pub ends_well : HartEnd → Bool
ends_well (Stopped s) = (s.code == 1) && (s.value == 0)
ends_well (Waits pc) = false

-- whether a hart waits for ever, is stopped by a fault, or exits with another value than 0
abbrev pub is_bad : FoundEnding → Bool
is_bad e = not (list_all ends_well e.ends.items)
