use Rattle.std.proofs.Common.{ℕ, List, sym, ap, ◌∙◌}
use Rattle.hart_step.specs.Effect.{action}
use Rattle.run_bounds.specs.Operations.{operation_in}
use Rattle.hart_states.specs.States.{state_of}
use Rattle.own_moves.specs.Owned.{owns_of}
use Rattle.own_moves.proofs.Strays.{none_strays, nothing_keeps}
use Rattle.own_moves.proofs.straying.strays_to.Goals as goal

pub returns-in_default : goal.returns-in_default
returns-in_default c = λ e. nothing_keeps (owns_of c.args.owned.now) c.args.pages.now.memory c.args.harts c.args.hart (state_of c.args.state.now) (λ i at. c.in_default.not-Some i (c.instruction_at.ensures ∙ at))

pub returns-in-None : goal.returns-in-None
returns-in-None c = λ e.
    none_strays (owns_of c.args.owned.now) c.args.pages.now.memory c.args.harts c.args.hart (state_of c.args.state.now) c.in-Some.i (sym c.instruction_at.ensures ∙ c.in-Some.is)
    (ap (λ (x : List ℕ). operation_in (action c.in-Some.i x c.args.state.now.pc)) (sym c.hart_of.ensures.registers) ∙ ap (λ (p : ℕ). operation_in (action c.in-Some.i c.hart_of.result.x p)) (sym c.hart_of.ensures.pc)
    ∙ sym c.operation_of.ensures ∙ c.in-None.is)
