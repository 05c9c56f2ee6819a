use Rattle.std.proofs.Common.{◌≡◌, true, All, List, is_some, map, subst, sym}
use Rattle.ending_judge.specs.JudgedEndings.{stop_of}
use Rattle.endings_table.specs.declared.hart_end.HartEnd.{HartEnd}
use Rattle.endings_finder.proofs.fences.news_in.Goals as goal

pub returns-then-has_stopped : goal.returns-then-has_stopped
returns-then-has_stopped c = record {
  ending = c.ending-item.result;
  there = (c.loop-ending.ending-index, c.loop-ending-test.true, sym c.ending-item.is);
  stopped = subst (λ (es : List HartEnd). All (λ s. is_some s ≡ true) (map stop_of es)) c.deref.ensures.value (c.has_stopped.ensures c.if-has_stopped.true);
  is_new = c.is_new.ensures c.if-is_new.true;
}
