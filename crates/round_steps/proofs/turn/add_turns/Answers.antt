use Rattle.std.proofs.Common.{length, refl, subst, sym, ◌∙◌}
use Rattle.machine.specs.Untraced.{IsUntraced, Untraced}
use Rattle.round_steps.specs.declared.turn.Noting.{Noting}
use Rattle.round_steps.proofs.Turning.{none_noted}
use Rattle.round_steps.proofs.TurnsAlong.{all_told, none_comes}
use Rattle.round_steps.proofs.turn.add_turns.Goals as goal

pub returns-then-not-some_comes-clause-places : goal.returns-then-not-some_comes-clause-places
returns-then-not-some_comes-clause-places g c = λ m is e.
    none_comes c.args.asked.now m (length m.state.harts) c.args.turns.now c.args.found.items (sym c.some_comes.ensures ∙ c.if-not-some_comes.true) e

pub returns-clause-places : goal.returns-clause-places
returns-clause-places g c = λ m is e.
    let there : IsUntraced m c.in_ok-copy.copy = subst (λ (u : Untraced). IsUntraced m u) (sym c.in_ok-copy.ensures.same) is in
    let first : Noting = record { asked = c.args.asked; turns = c.args.turns; found = c.args.found } in
    let known = c.in_ok-visit_turns.ensures.turns m there first (refl, refl, none_noted c.args.asked.now c.args.turns.now c.args.found.items) in
    all_told c.args.asked.now m c.args.turns.now c.args.found.items c.visit_turns.new.visitor.found.items e known.2
