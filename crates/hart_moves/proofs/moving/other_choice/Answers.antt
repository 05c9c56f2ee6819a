use Rattle.std.proofs.Common.{◌≡◌, ◌+◌, IfSome, Option, Some, None, sym, ap, ◌∙◌}
use Rattle.round_schedule.specs.declared.access.Access.{Access}
use Rattle.round_schedule.specs.Accesses.{address_of, bytes_of}
use Rattle.rv64_decode.specs.declared.instruction.Instr.{Instr}
use Rattle.hart_step.specs.Effect.{action}
use Rattle.execution.specs.Executions.{no_access}
use Rattle.all_endings.specs.Locality.{filled}
use Rattle.run_bounds.specs.Operations.{operation_in}
use Rattle.hart_states.specs.declared.choice.Choice.{Choice}
use Rattle.hart_states.specs.States.{state_of}
use Rattle.hart_moves.proofs.Computes.{computes_so}
use Rattle.hart_moves.proofs.moving.other_choice.Goals as goal

-- what makes no access touches no byte
touches_none : (o : Option Choice) → IfSome o (λ c. c.access ≡ no_access) → IfSome o (λ c. address_of c.access + bytes_of c.access ≡ 0)
touches_none None p = p
touches_none (Some c) p = ap (λ (y : Access). address_of y + bytes_of y) p

pub returns : goal.returns
returns c = record {
  found = λ other h m opening v same doing. c.in_ok-choice.ensures.found m v same
      (computes_so c.args.pages.now.memory h m opening (state_of c.args.state.now) v c.destinations_are_written.ensures
      (λ e. other (sym same ∙ e))
      (λ before after mode e. c.in_default.not-Fence before after mode (sym same ∙ e))
      (ap (λ (j : Instr). operation_in (action j (filled c.args.state.now.registers) c.args.state.now.pc)) same ∙ c.requires.none)
      doing);
  fits = touches_none c.in_ok-choice.choice c.in_ok-choice.ensures.fits;
}
