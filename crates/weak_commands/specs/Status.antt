-- With which status a search for missing fences ends.
use Rattle.std.specs.Prelude.{◌==◌, ◌&&◌, if◌then◌else◌, length}
use Rattle.command_line.specs.declared.settings.FencesFailOn.{FencesFailOn}
use Rattle.command_line.specs.declared.settings.FencesFailOn.TheVariants.{Missing, Never}
use Rattle.fence_table.specs.declared.fence_table.FenceTable.{FenceTable}
use Rattle.program_files.specs.declared.exit_status.ExitStatus.{ExitStatus}
use Rattle.program_files.specs.declared.exit_status.ExitStatus.TheVariants.{Done, Doubtful, Lacking}

-- 5 where a fence is missing; else 4 where some number fails as an ordinary run may, or of some nothing is known from where harts still ran
abbrev pub fences_status : FencesFailOn → FenceTable → ExitStatus
fences_status Never t = Done
fences_status Missing t =
    if length t.missing.items == 0 then (if (t.ordinary.plans == 0 && (t.unnamed.plans == 0)) && (t.running.plans == 0) then Done else Doubtful) else Lacking
