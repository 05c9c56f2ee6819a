use Rattle.std.proofs.Common.{◌≡◌, ◌-◌}
use Rattle.all_endings.specs.StoreLists.{last_place}
use Rattle.hart_states.specs.States.{listed}
use Rattle.hart_states.proofs.reading.last_place.Given as goal

abbrev pub invariant-loop-back : goal.invariant-loop-back
invariant-loop-back l = last_place (listed l.list) l.x l.time ≡ last_place (listed l.list) l.x (l.time - l.back)
