use Rattle.std.proofs.Common.{refl}
use Rattle.execution_scripts.proofs.Ways.{noted_none, opened_follows, opened_like}
use Rattle.execution_scripts.proofs.way.Way.open.Goals as goal

pub returns-clause-way : goal.returns-clause-way
returns-clause-way c = record {
  like = opened_like _ c.in_ok-execution.execution.memory c.in_ok-execution.ensures.memory;
  follows = opened_follows _ _ c.in_ok-execution.execution.standing c.new.result.items c.in_ok-execution.ensures.standing c.new.ensures.items;
  asks = refl;
  notes = noted_none _ _ c.in_ok-execution.execution.standing c.args.asked c.new-2.result c.in_ok-execution.ensures.standing c.new-2.ensures refl;
}
