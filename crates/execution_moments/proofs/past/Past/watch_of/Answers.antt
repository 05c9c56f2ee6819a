use Rattle.std.proofs.Common.{sym, ◌∙◌}
use Rattle.std.proofs.lemmas.Result.{IfOk-weaker}
use Rattle.execution_moments.specs.Looked.{looked_at}
use Rattle.execution_moments.proofs.Finding.{told_there, untouched}
use Rattle.execution_moments.proofs.past.Past.watch_of.Goals as goal

pub returns-then-not-touches_some : goal.returns-then-not-touches_some
returns-then-not-touches_some c =
    untouched (looked_at c.args.self.now) c.args.watches.now c.args.time c.args.number c.in-Some.index c.args.index c.event_at-event.result c.in-Some.is c.event_at-event.ensures
    (c.touches_some.ensures.none (sym c.touches_some.ensures.touches ∙ c.if-not-touches_some.true))

pub returns : goal.returns
returns c =
    IfOk-weaker c.told_alone.result _ _
    (λ x e. e ∙ told_there (looked_at c.args.self.now) c.args.watches.now c.args.time c.args.number c.in-Some.index c.args.index c.event_at-event.result _ _ _ c.in-Some.is c.event_at-event.ensures c.address-address.ensures c.byte_count-count.ensures.count c.in_ok-bytes.ensures)
    c.told_alone.ensures
