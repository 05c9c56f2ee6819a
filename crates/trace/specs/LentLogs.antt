-- The accesses of a log, as they are lent.
use Rattle.std.specs.Prelude.{List}
use Rattle.round_schedule.specs.declared.access.Access.{Access}
use Rattle.trace.specs.declared.access_slice.AccessSlice.{AccessSlice}
use Rattle.trace.specs.declared.access_slice.AccessSlice.TheVariants.{Whole, Brief}

abbrev pub accesses_lent : AccessSlice → List Access
accesses_lent (Whole as') = as'.now
accesses_lent (Brief r) = r
