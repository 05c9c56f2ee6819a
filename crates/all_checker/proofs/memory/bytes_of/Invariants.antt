use Rattle.std.proofs.Common.{◌≡◌}
use Rattle.all_endings.specs.Endings.{bytes_from}
use Rattle.all_endings.specs.Tables.{memory_of}
use Rattle.hart_states.specs.Opening.{opening_of}
use Rattle.hart_states.specs.States.{listed}
use Rattle.all_checker.proofs.memory.bytes_of.Given as goal

abbrev pub invariant-loop-distance : goal.invariant-loop-distance
invariant-loop-distance l = l.bytes.items ≡ bytes_from (memory_of (listed l.list) (opening_of l.opening)) l.range.start l.distance
