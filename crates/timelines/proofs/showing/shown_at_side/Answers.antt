use Rattle.std.proofs.Common.{sym, ◌∙◌}
use Rattle.std.proofs.lemmas.Result.{IfOk-weaker}
use Rattle.timelines.proofs.ShownThere.{behind_there, elsewhere}
use Rattle.timelines.proofs.showing.shown_at_side.Goals as goal

pub returns-then-not-is_its_move-clause-sight : goal.returns-then-not-is_its_move-clause-sight
returns-then-not-is_its_move-clause-sight g c = λ m is code.
    IfOk-weaker c.shown.result _ _
    (λ s p. elsewhere m c.args.side c.args.place.now c.args.number s (sym c.is_its_move.ensures ∙ c.if-not-is_its_move.true) p)
    (c.shown.ensures.sight m is code)

pub returns-clause-sight : goal.returns-clause-sight
returns-clause-sight g c = λ m is code.
    behind_there m c.args.machine.now c.args.code.now c.args.side c.args.place.now c.args.number c.in_ok-sight.sight is code
    (sym c.is_its_move.ensures ∙ c.if-not-is_its_move.false) c.in_ok-sight.ensures
