use Rattle.std.proofs.Common.{◌≡◌, take}
use Rattle.gdb_talk.specs.Stops.{without_watch}
use Rattle.gdb_talk.proofs.watchpoints.without_watch.Given as goal

abbrev pub invariant-loop-other : goal.invariant-loop-other
invariant-loop-other l = l.changed.items ≡ without_watch (take l.other-index l.watches) l.watch
