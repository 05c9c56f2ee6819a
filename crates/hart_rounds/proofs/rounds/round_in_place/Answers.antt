use Rattle.std.proofs.Common.{Some, sym, ap, ◌∙◌}
use Rattle.hart_rounds.proofs.AtRest.{round_at_rest}
use Rattle.hart_rounds.proofs.rounds.round_in_place.Goals as goal

pub returns-then-is_at_rest : goal.returns-then-is_at_rest
returns-then-is_at_rest c =
    let stopped = c.is_at_rest.ensures.stopped c.if-is_at_rest.true in
    round_at_rest c.args.start.now c.args.number c.args.end.now.hart (c.requires.stays stopped) stopped
    ∙ ap Some (sym (c.is_at_rest.ensures.rests c.if-is_at_rest.true))

pub returns-then-is_some : goal.returns-then-is_some
returns-then-is_some c =
    round_at_rest c.args.start.now c.args.number c.begin.new.self.hart c.begin.ensures (sym c.is_some.ensures ∙ c.if-is_some.true)
    ∙ ap Some (sym c.rest.ensures)
