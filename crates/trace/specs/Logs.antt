-- The accesses of a log.
use Rattle.std.specs.Prelude.{List, []}
use Rattle.round_schedule.specs.declared.access.Access.{Access}
use Rattle.trace.specs.declared.log.Contents.{Contents}
use Rattle.trace.specs.declared.log.Contents.TheVariants.{Nothing, Own, Brief}

abbrev pub accesses_in : Contents → List Access
accesses_in Nothing = []
accesses_in (Own v) = v.items
accesses_in (Brief s) = s.value
