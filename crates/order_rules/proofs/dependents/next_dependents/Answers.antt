use Rattle.std.proofs.Common.{◌≡◌, if◌then◌else◌, sym, ap, arith, ◌∙◌}
use Rattle.round_schedule.specs.declared.event.Event.{Event}
use Rattle.round_schedule.specs.Positions.{event}
use Rattle.memory_order.specs.declared.registers.Registers.{Registers}
use Rattle.memory_order.specs.Dependencies.{has_failed, registers_at}
use Rattle.order_rules.proofs.Following.{dependents_skip, dependents_step, registers_read}
use Rattle.order_rules.proofs.dependents.next_dependents.Goals as goal

pub returns-then-event-hart : goal.returns-then-event-hart
returns-then-event-hart c = λ d.
    dependents_skip c.args.instructions.now c.args.events.now c.args.i c.args.hart c.args.k c.args.dependents.now
    (λ e. c.if-event-hart.true (ap (λ (f : Event). f.hart) c.event_at-event.ensures.at ∙ e)) d

pub returns : goal.returns
returns c = λ d.
    let known : c.used_registers-used.result ≡ registers_at c.args.instructions.now c.args.k =
    registers_read c.args.instructions.now c.args.k c.used_registers-used.result c.index-instructions-k.result (omega (arith, c.requires.along, c.requires.within)) c.used_registers-used.ensures c.index-instructions-k.is in
    let at = c.event_at-event.ensures.at in
    dependents_step c.args.instructions.now c.args.events.now c.args.i c.args.hart c.args.k c.destination_of-destination.result c.used_registers-used.result c.are_same-itself.result
    c.args.dependents.now c.dependents_after.result known
    (c.destination_of-destination.ensures ∙ ap (λ (f : Event). if has_failed f.access then 0 else c.used_registers-used.result.destination) at
    ∙ ap (λ (y : Registers). if has_failed (event c.args.events.now c.args.k).access then 0 else y.destination) known)
    c.are_same-itself.ensures c.dependents_after.ensures (sym (ap (λ (f : Event). f.hart) at) ∙ c.if-event-hart.false) c.are_registers.ensures d
