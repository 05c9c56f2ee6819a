use Rattle.std.proofs.Common.{◌≡◌, true, false, None, Some, sym, ◌∙◌}
use Rattle.hart_step.specs.declared.hart.Stop.{Stop}
use Rattle.hart_states.specs.States.{state_of}
use Rattle.settled_walks.proofs.ending.may_end.Goals as goal

none_is_none : (s : Stop) → None ≡ Some s → ⊥
none_is_none s e = cc

not_both : true ≡ false → ⊥
not_both e = cc

pub returns-then-not-knows_registers : goal.returns-then-not-knows_registers
returns-then-not-knows_registers c = λ e stop knows halts. absurd (not_both (sym (c.knows_registers.ensures.1 knows) ∙ c.if-not-knows_registers.true))

pub returns-in-None : goal.returns-in-None
returns-in-None c = λ e stop knows halts.
    absurd (none_is_none stop (sym c.in-None.is ∙ (c.in_ok-stop_of.ensures ∙ c.stops_are_known.ensures c.args.pages.now.memory (state_of c.args.state.now) stop halts knows)))
