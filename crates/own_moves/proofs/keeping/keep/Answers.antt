use Rattle.std.proofs.Common.{◌≤◌, ℕ, true, if◌then◌else◌, List, option_map, Some, refl, ap, ◌∙◌, subst, arith}
use Rattle.std.proofs.lemmas.List.{length-map}
use Rattle.pages.specs.Memory.{in_range, width_bytes}
use Rattle.round_schedule.specs.declared.access.Access.{Access}
use Rattle.hart_step.specs.Step.{cut}
use Rattle.memory_order.specs.Registers.{registers_of}
use Rattle.memory_order.specs.declared.registers.Registers.{Registers}
use Rattle.rule_checker.specs.CarriedBounds.{AreRegisters, carried_after, operand_bound}
use Rattle.rule_checker.specs.Kinds.{kinds_after}
use Rattle.execution.specs.Progressing.{step_event}
use Rattle.run_bounds.specs.Bounds.{carried_of, kinds_of}
use Rattle.run_bounds.specs.Touched.{known_at}
use Rattle.run_bounds.specs.declared.touched.TouchedByte.{TouchedByte}
use Rattle.all_endings.specs.StoreLists.{later}
use Rattle.hart_states.specs.States.{listed, stored_of}
use Rattle.own_moves.specs.Private.{kept_byte}
use Rattle.own_moves.proofs.Kept.{keeps_follow}
use Rattle.own_moves.proofs.keeping.keep.Goals as goal

pub returns : goal.returns
returns c = λ v same so stands.
    let a = c.args.state.now in
    let o = c.args.coming.now.operation in
    let i = c.args.coming.now.instruction in
    let m = listed c.args.list.now in
    let time = c.earliest-time.result in
    let used = c.requires.coming.used in
    let does = c.access-access.ensures in
    let least = c.earliest-time.ensures.least v same so.access stands in
    let ends : time ≤ later m = (let e = c.earliest-time.ensures.ends in omega (arith, e, length-map c.args.list.now stored_of)) in
    keeps_follow c.args.hart m a c.args.coming.now time _ v (record {
      pc = refl;
      registers = refl;
      kinds = c.kinds_after.ensures ∙ ap (λ (y : Access). kinds_after (kinds_of a.kinds) y true time) does;
      carried = λ h. c.carried_after.ensures h ∙ ap (λ (u : Registers). carried_after (carried_of a.carried) u (step_event h (Some c.access-access.result)) time) used
          ∙ ap (λ (y : Access). carried_after (carried_of a.carried) (registers_of i) (step_event h (Some y)) time) does;
      bytes = λ x. c.in_ok-keep_bytes.ensures x
          ∙ ap (λ (l : List TouchedByte). if in_range o.address (width_bytes o.width) x then kept_byte o.address (option_map (cut o.width) c.args.coming.now.operand) time c.operand_bound-needs.result x (known_at l x) else known_at l x) (c.in_ok-bytes.ensures.items ∙ c.deref.ensures.value)
          ∙ ap (λ (n : ℕ). if in_range o.address (width_bytes o.width) x then kept_byte o.address (option_map (cut o.width) c.args.coming.now.operand) time n x (known_at a.bytes.items x) else known_at a.bytes.items x)
          (c.operand_bound-needs.ensures ∙ ap (λ (u : Registers). operand_bound (carried_of a.carried) u) used);
      held = refl;
      reserved = refl;
      sources = refl;
      output = c.in_ok-from_slice.ensures.items ∙ c.deref-2.ensures.value;
      done = refl;
    }) c.is_sized.ensures (subst AreRegisters c.used_registers.ensures c.are_registers.ensures) c.requires.coming same so least ends
