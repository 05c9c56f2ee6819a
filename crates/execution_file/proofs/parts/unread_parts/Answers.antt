use Rattle.std.proofs.Common.{[]}
use Rattle.execution_file.proofs.Doing.{parts_next}
use Rattle.execution_file.proofs.parts.unread_parts.Goals as goal

pub loop-number-preserved : goal.loop-number-preserved
loop-number-preserved c =
    parts_next c.loop-number.number c.args.harts.now [] _ c.loop-number.parts.items c.push.new.self.items c.unread_part.result c.loop-number-test.true
    c.in_ok-push.ensures.items (c.unread_part.ensures c.loop-number.number) c.loop-number.invariant
