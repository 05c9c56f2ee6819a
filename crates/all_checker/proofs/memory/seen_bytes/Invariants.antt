use Rattle.std.proofs.Common.{◌≡◌, map, take}
use Rattle.pages.specs.declared.access.Range.{Range}
use Rattle.all_endings.specs.Endings.{bytes_from}
use Rattle.all_endings.specs.Tables.{memory_of}
use Rattle.hart_ends.specs.Told.{bytes_told}
use Rattle.hart_states.specs.Opening.{opening_of}
use Rattle.hart_states.specs.States.{listed}
use Rattle.all_checker.proofs.memory.seen_bytes.Given as goal

abbrev pub invariant-loop-range : goal.invariant-loop-range
invariant-loop-range l = bytes_told l.seen.items ≡ map (λ (r : Range). bytes_from (memory_of (listed l.list) (opening_of l.opening)) r.start r.len) (take l.range-index l.see)
