use Rattle.std.proofs.Common.{◌≡◌, take}
use Rattle.gdb_talk.specs.Stops.{without_one}
use Rattle.gdb_talk.proofs.stops.without_one.Given as goal

abbrev pub invariant-loop-stop : goal.invariant-loop-stop
invariant-loop-stop l = l.changed.items ≡ without_one (take l.stop-index l.stops) l.address
