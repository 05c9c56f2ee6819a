use Rattle.std.proofs.Common.{refl, ℕ, ◌&&◌, ◌||◌, Bool, if◌then◌else◌, Some, ap, ◌∙◌}
use Rattle.round_schedule.specs.Accesses.{is_lr, loads, stores}
use Rattle.memory_order.specs.declared.registers.Registers.{Registers}
use Rattle.memory_order.specs.Operations.{covers}
use Rattle.rule_checker.specs.CarriedBounds.{carried_after, operand_bound}
use Rattle.rule_checker.specs.Kinds.{kinds_after}
use Rattle.execution.specs.Progressing.{step_event}
use Rattle.run_bounds.specs.Bounds.{carried_of, kinds_of}
use Rattle.run_bounds.specs.Touched.{known_at}
use Rattle.all_endings.specs.Locality.{set_view}
use Rattle.memory_order.specs.Registers.{registers_of}
use Rattle.all_endings.specs.RunStates.{behind}
use Rattle.hart_states.specs.Choices.{byte_after, move_of}
use Rattle.hart_states.specs.States.{listed}
use Rattle.hart_states.proofs.Kept.{follows_kept}
use Rattle.hart_states.proofs.following.follow.Goals as goal

pub returns : goal.returns
returns c =
    let choice = c.args.choice.now in
    let a = c.args.state.now in
    let late = c.time_behind-behind.ensures in
    let used = c.used_registers-used.ensures in
    follows_kept _ _ a choice _ (record {
      pc = refl;
      registers = c.with_result.ensures ∙ ap (λ (r : ℕ). set_view a.registers r choice.result) c.answered.ensures;
      kinds = c.kinds_after.ensures ∙ ap (λ (b : Bool). kinds_after (kinds_of a.kinds) choice.access b c.time_behind-behind.result) c.operates.ensures
          ∙ ap (λ (n : ℕ). kinds_after (kinds_of a.kinds) choice.access (loads choice.access || stores choice.access) n) late;
      carried = c.carried_after-carried.ensures c.args.hart ∙ ap (λ (u : Registers). carried_after (carried_of a.carried) u (step_event c.args.hart (Some choice.access)) c.time_behind-behind.result) used
          ∙ ap (λ (n : ℕ). carried_after (carried_of a.carried) (registers_of choice.instruction) (step_event c.args.hart (Some choice.access)) n) late;
      size = c.has_all.ensures;
      bytes = λ x. c.in_ok-bytes_left.ensures x
          ∙ ap (λ (n : ℕ). if (loads choice.access || stores choice.access) && covers choice.access x then byte_after choice n c.operand_bound-needs.result x (known_at a.bytes.items x) else known_at a.bytes.items x) late
          ∙ ap (λ (n : ℕ). if (loads choice.access || stores choice.access) && covers choice.access x then byte_after choice (behind (listed c.args.list.now) (move_of choice)) n x (known_at a.bytes.items x) else known_at a.bytes.items x)
          (c.operand_bound-needs.ensures ∙ ap (λ (u : Registers). operand_bound (carried_of a.carried) u) used);
      held = c.held_left.ensures;
      reserved = c.reserved_left.ensures ∙ ap (λ (n : ℕ). if is_lr choice.access then n else a.reserved) late;
      sources = c.sources_left.ensures;
      output = c.in_ok-output_left.ensures;
      done = c.place_done.ensures;
    })
