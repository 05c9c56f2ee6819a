use Rattle.std.proofs.Common.{sym, ◌∙◌}
use Rattle.hart_states.specs.States.{state_of}
use Rattle.own_moves.specs.Owned.{owns_of}
use Rattle.own_moves.proofs.Strays.{told, told_keeps, unable_keeps}
use Rattle.own_moves.proofs.straying.stray.Goals as goal

pub returns-then-keeps : goal.returns-then-keeps
returns-then-keeps c = λ e.
    told_keeps (owns_of c.args.owned.now) c.args.pages.now.memory c.args.harts c.args.hart (state_of c.args.state.now) c.args.i.now c.requires.known c.args.operation.now c.requires.is
    (λ owner few own.
    let f = told c.args.owned.now c.args.hart c.args.harts _ _ (c.keeps.ensures c.if-keeps.true) owner few own in
    (f.0, sym c.is_plain.ensures ∙ f.1))

pub returns-in-None : goal.returns-in-None
returns-in-None c = λ e.
    unable_keeps (owns_of c.args.owned.now) c.args.pages.now.memory c.args.harts c.args.hart (state_of c.args.state.now) c.args.i.now c.requires.known c.args.operation.now c.requires.is
    c.in-None.ensures.none
