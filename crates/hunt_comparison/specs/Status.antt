-- With which status a comparison ends.
use Rattle.std.specs.Prelude.{◌&&◌, Bool, List, if◌then◌else◌, is_some}
use Rattle.std.specs.List.{list_all}
use Rattle.hunt_comparison.specs.declared.twins.Compared.{Compared}
use Rattle.program_files.specs.declared.exit_status.ExitStatus.{ExitStatus}
use Rattle.program_files.specs.declared.exit_status.ExitStatus.TheVariants.{Done, Doubtful}

abbrev pub has_twin : Compared → Bool
has_twin c = is_some c.twin

-- 0 where each ending of either table is one of the other, and else 4
abbrev pub compare_status : List Compared → List Compared → ExitStatus
compare_status olds news = if list_all has_twin olds && list_all has_twin news then Done else Doubtful
