-- Where both tables were read, they end the command as they end its comparison.
use Rattle.std.proofs.Common.{List, inl, inr, refl, ℕ}
use Rattle.command_line.specs.declared.settings.Compare.{Compare}
use Rattle.hunt_comparison.specs.Compares.{EndsComparison, GivenTables, IsComparedEnd}
use Rattle.program_files.specs.declared.failure.CommandFailure.{CommandFailure}
use Rattle.program_files.specs.declared.failure.CommandFailure.TheVariants as failures
use Rattle.program_files.specs.Relations.{FileRelations}

pub ends_given : (files : FileRelations) (asked : Compare) (failed : Type 0) (given : GivenTables files asked)
    (f : CommandFailure) → IsComparedEnd given.old.table given.new.table failed f → EndsComparison files asked failed f
ends_given files asked failed given (failures.Unlike why) ended = inr (why, refl, given, ended)
ends_given files asked failed given failure ended = inl (inr (inr ended))
