use Rattle.std.proofs.Common.{refl}
use Rattle.gdb_talk.specs.Stops.{stopping}
use Rattle.gdb_talk.proofs.Unchanged.{unchanged}
use Rattle.gdb_talk.proofs.stops.Stops.change_by.Goals as goal

pub returns-in_default-clause-changes : goal.returns-in_default-clause-changes
returns-in_default-clause-changes c = (unchanged (stopping c.args.self.now) c.args.request c.in_default.not-AddStop c.in_default.not-RemoveStop c.in_default.not-AddHardwareStop c.in_default.not-RemoveHardwareStop c.in_default.not-AddWatch c.in_default.not-RemoveWatch, refl)
