use Rattle.std.proofs.Common.{List, inl, inr, subst, sym, ⊎_elim, ℕ}
use Rattle.std.proofs.lemmas.Result.{err_from_is_err_and}
use Rattle.program_files.proofs.Begun.{on_err}
use Rattle.view_commands.proofs.Drawn.{drawn_begun}
use Rattle.view_commands.specs.Drawings.{Draws, IsBegun, is_of_execution}
use Rattle.view_commands.proofs.pictures.draw_command.Goals as goal

pub returns-in_err-status-clause-begun : goal.returns-in_err-status-clause-begun
returns-in_err-status-clause-begun g c =
    let f = c.in_ok-given.given in
    on_err c.from_residual-in_err-status.result _ (⊎_elim (λ same. inl same) (λ b. inr (
      record { image = f.program.image.items; input = f.program.input.items; text = f.plan.text.items; budget = f.plan.budget; given = c.in_ok-given.ensures.given },
      b,
    )) c.in_err-status.ensures.begun)

pub returns-in_err-hand_on-clause-begun : goal.returns-in_err-hand_on-clause-begun
returns-in_err-hand_on-clause-begun g c =
    let f = c.in_ok-given.given in
    let asked = c.args.asked.now in
    let old = g.O.Sink.took c.args.out.now in
    on_err c.from_residual-in_err-hand_on.result _ (inr (
      record { image = f.program.image.items; input = f.program.input.items; text = f.plan.text.items; budget = f.plan.budget; given = c.in_ok-given.ensures.given },
      subst (λ (n : List ℕ). IsBegun asked f.program.image.items f.program.input.items f.plan.text.items f.plan.budget old n) (sym c.in_err-hand_on.ensures.took)
          (drawn_begun (is_of_execution asked f.program.image.items) asked _ _ _ _ _ _ _ c.in_ok-status.ensures.draws),
    ))

pub returns-clause-draws : goal.returns-clause-draws
returns-clause-draws g c =
    let f = c.in_ok-given.given in
    let asked = c.args.asked.now in
    let old = g.O.Sink.took c.args.out.now in
    let status = c.in_ok-status.status in (
      record { image = f.program.image.items; input = f.program.input.items; text = f.plan.text.items; budget = f.plan.budget; given = c.in_ok-given.ensures.given },
      subst (λ (n : List ℕ). Draws asked f.program.image.items f.program.input.items f.plan.text.items f.plan.budget old n status) (sym c.in_ok-hand_on.ensures.took)
          c.in_ok-status.ensures.draws,
      c.in_ok-hand_on.ensures.out,
    )

pub returns-in_err-status-clause-errors : goal.returns-in_err-status-clause-errors
returns-in_err-status-clause-errors g c =
    let f = c.in_ok-given.given in
    let p = err_from_is_err_and c.from_residual-in_err-status.result c.from_residual-in_err-status.ensures.1 in
    rw (p.1, p.2) (inr (
      record { image = f.program.image.items; input = f.program.input.items; text = f.plan.text.items; budget = f.plan.budget; given = c.in_ok-given.ensures.given },
      c.in_err-status.ensures.errors,
    ))
