use Rattle.std.proofs.Common.{Contains, take, List}
use Rattle.all_endings.specs.Walking.{AreEndsOf, HartEnding}
use Rattle.hart_ends.specs.Told.{ways_told}
use Rattle.hart_ends.proofs.choices.choices_of_ends.Given as goal

abbrev pub invariant-loop-way : goal.invariant-loop-way
invariant-loop-way l = (es : List HartEnding) → AreEndsOf (ways_told (take l.way-index l.ways)) es → Contains (ways_told l.chosen.items) es
