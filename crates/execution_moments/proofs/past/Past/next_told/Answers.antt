use Rattle.std.proofs.Common.{arith, sym, ◌∙◌}
use Rattle.execution_moments.specs.Looked.{end_of, looked_at}
use Rattle.execution_moments.specs.Told.{told_on}
use Rattle.execution_moments.proofs.Finding.{told_first, told_later}
use Rattle.execution_moments.proofs.past.Past.next_told.Goals as goal

pub returns-then-is_some : goal.returns-then-is_some
returns-then-is_some c =
    let r = looked_at c.args.self.now in
    let a = c.args.asked.now in
    told_first (told_on r a.each a.faults a.stops.items c.args.watches.now c.args.here) c.loop-time.time (end_of r) _ _ c.loop-time.invariant (omega arith) c.in_ok-told.ensures (sym c.is_some.ensures ∙ c.if-is_some.true)

pub loop-time-preserved : goal.loop-time-preserved
loop-time-preserved c =
    let r = looked_at c.args.self.now in
    let a = c.args.asked.now in
    told_later (told_on r a.each a.faults a.stops.items c.args.watches.now c.args.here) c.loop-time.time (end_of r) _ _ c.loop-time.invariant (omega arith) c.in_ok-told.ensures (sym c.is_some.ensures ∙ c.if-is_some.false)
