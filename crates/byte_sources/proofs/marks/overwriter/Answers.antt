use Rattle.std.proofs.Common.{◌∙◌, sym, ap, length, arith}
use Rattle.round_schedule.specs.declared.event.Event.{Event}
use Rattle.round_schedule.specs.Accesses.{writes}
use Rattle.round_schedule.specs.Positions.{writes_at}
use Rattle.byte_sources.proofs.Firsts.{first_found, first_passed}
use Rattle.byte_sources.proofs.marks.overwriter.Goals as goal

pub returns-then-writes : goal.returns-then-writes
returns-then-writes c =
    first_found (λ v. writes_at c.args.trace.now.events v c.args.byte) c.loop-later.later (length c.args.trace.now.events) _ c.loop-later.invariant (omega arith)
    (ap (λ (e : Event). writes e.access c.args.byte) (sym c.event_at.ensures.event) ∙ sym c.writes.ensures ∙ c.if-writes.true)

pub loop-later-preserved : goal.loop-later-preserved
loop-later-preserved c =
    first_passed (λ v. writes_at c.args.trace.now.events v c.args.byte) c.loop-later.later (length c.args.trace.now.events) _ c.loop-later.invariant (omega arith)
    (ap (λ (e : Event). writes e.access c.args.byte) (sym c.event_at.ensures.event) ∙ sym c.writes.ensures ∙ c.if-writes.false)
