use Rattle.std.proofs.Common.{IfSome}
use Rattle.endings_finder.specs.Checked.{AreNews}
use Rattle.endings_finder.proofs.fences.news_in.Given as goal

abbrev pub invariant-loop-ending : goal.invariant-loop-ending
invariant-loop-ending l = IfSome l.waits (AreNews l.endings l.others)
