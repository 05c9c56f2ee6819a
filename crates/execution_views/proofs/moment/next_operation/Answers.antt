use Rattle.std.proofs.Common.{arith, length, sym, ◌∙◌}
use Rattle.byte_sources.proofs.Firsts.{first_found, first_passed}
use Rattle.execution_views.specs.Moments.{is_next_of}
use Rattle.execution_views.proofs.moment.next_operation.Goals as goal

pub returns-then-is_next_of : goal.returns-then-is_next_of
returns-then-is_next_of c =
    first_found (is_next_of c.args.events.now c.args.index) c.loop-later.later (length c.args.events.now) _ c.loop-later.invariant (omega arith) (sym c.is_next_of.ensures ∙ c.if-is_next_of.true)

pub loop-later-preserved : goal.loop-later-preserved
loop-later-preserved c =
    first_passed (is_next_of c.args.events.now c.args.index) c.loop-later.later (length c.args.events.now) _ c.loop-later.invariant (omega arith) (sym c.is_next_of.ensures ∙ c.if-is_next_of.false)
