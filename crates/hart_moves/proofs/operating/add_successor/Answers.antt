use Rattle.std.proofs.Common.{subst}
use Rattle.memory_order.specs.declared.registers.Registers.{Registers}
use Rattle.rule_checker.specs.CarriedBounds.{AreRegisters}
use Rattle.hart_states.specs.States.{listed, state_of}
use Rattle.hart_moves.proofs.Lower.{contains_last, found_follows}
use Rattle.hart_moves.proofs.operating.add_successor.Goals as goal

pub returns-in_ok-push-in-Some-clause-adds : goal.returns-in_ok-push-in-Some-clause-adds
returns-in_ok-push-in-Some-clause-adds c = λ v found. (
  c.in_ok-left-in-Some.left,
  contains_last _ c.in_ok-left-in-Some.left _ c.in_ok-push-in-Some.ensures.items,
  found_follows c.earlier_moves_are_lower.ensures c.lower_states_are_ahead.ensures c.args.hart (listed c.args.list.now) (state_of c.args.state.now) c.args.choice c.in-Some.choice c.in_ok-left-in-Some.left v
      c.is_sized.ensures (subst (λ (u : Registers). AreRegisters u) c.used_registers.ensures c.are_registers.ensures) c.in-Some.is c.in_ok-left-in-Some.ensures found,
)
