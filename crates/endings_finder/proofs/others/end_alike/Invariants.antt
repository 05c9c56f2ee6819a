use Rattle.std.proofs.Common.{◌≡◌, map, take}
use Rattle.ending_judge.specs.JudgedEndings.{stop_of}
use Rattle.endings_finder.specs.Checked.{stop_told}
use Rattle.endings_finder.proofs.others.end_alike.Given as goal

abbrev pub invariant-loop-index : goal.invariant-loop-index
invariant-loop-index l = map stop_of (take l.index l.ends) ≡ map stop_told (take l.index l.others)
