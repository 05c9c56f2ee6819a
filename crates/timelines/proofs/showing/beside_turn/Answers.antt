use Rattle.std.proofs.Common.{sym, ◌∙◌}
use Rattle.timelines.proofs.ShownThere.{none_beside}
use Rattle.timelines.proofs.showing.beside_turn.Goals as goal

pub returns-in_default-clause-sight : goal.returns-in_default-clause-sight
returns-in_default-clause-sight g c = λ m is code. none_beside m c.args.place.now c.args.number c.args.hart (sym (c.in_ok-sight.ensures.sight m is) ∙ c.in_default.is)
