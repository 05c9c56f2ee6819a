use Rattle.std.proofs.Common.{arith, length, sym, ◌∙◌}
use Rattle.byte_sources.proofs.Firsts.{first_found, first_passed}
use Rattle.execution_moments.specs.Shown.{is_of}
use Rattle.execution_moments.proofs.course.Course.next_of.Goals as goal

pub returns-then-is_of-clause-next : goal.returns-then-is_of-clause-next
returns-then-is_of-clause-next c =
    first_found (is_of c.args.self.now c.args.number) c.loop-later.later (length c.args.self.now.sequence.items) _ c.loop-later.invariant (omega arith) (sym c.is_of.ensures ∙ c.if-is_of.true)

pub loop-later-preserved : goal.loop-later-preserved
loop-later-preserved c =
    first_passed (is_of c.args.self.now c.args.number) c.loop-later.later (length c.args.self.now.sequence.items) _ c.loop-later.invariant (omega arith) (sym c.is_of.ensures ∙ c.if-is_of.false)
