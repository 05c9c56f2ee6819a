use Rattle.std.proofs.Common.{◌≡◌, ◌||◌, if◌then◌else◌, true, false, get_or, subst, ap, ◌∙◌, arith}
use Rattle.round_schedule.specs.declared.event.Event.{Event}
use Rattle.round_schedule.specs.Accesses.{stores}
use Rattle.round_schedule.specs.Positions.{event}
use Rattle.memory_order.specs.declared.registers.Registers.{Registers}
use Rattle.memory_order.specs.Dependencies.{destination_at, has_failed, registers_at}
use Rattle.memory_order.specs.Operations.{is_store}
use Rattle.memory_order.specs.Orders.{order_position}
use Rattle.order_rules.specs.Behind.{NeedsAll, keeps_loads, keeps_stores}
use Rattle.order_rules.proofs.Following.{registers_read}
use Rattle.order_rules.proofs.Going.{behind_more, behind_skip}
use Rattle.order_rules.proofs.behind.behind_before.Goals as goal

pub returns-then-not-is_same_hart : goal.returns-then-not-is_same_hart
returns-then-not-is_same_hart c =
    behind_skip c.args.instructions.now c.args.events.now (order_position c.args.order.now) c.args.b c.args.k c.args.behind.now c.requires.earlier
    (λ e. let yes = c.is_same_hart.ensures.1 e in let no = c.if-not-is_same_hart.true in cc) c.requires.behind

pub returns : goal.returns
returns c =
    let known : c.used_registers-used.result ≡ registers_at c.args.instructions.now c.args.k =
    registers_read c.args.instructions.now c.args.k c.used_registers-used.result c.index-instructions-k.result (omega (arith, c.requires.along, c.requires.within, c.requires.earlier)) c.used_registers-used.ensures c.index-instructions-k.is in
    let at = c.event_at-first.ensures.at in
    let at_b = c.event_at-second.ensures.at in
    let to : c.destination_of-destination.result ≡ destination_at c.args.instructions.now c.args.events.now c.args.k =
    c.destination_of-destination.ensures ∙ ap (λ (f : Event). if has_failed f.access then 0 else c.used_registers-used.result.destination) at
    ∙ ap (λ (y : Registers). if has_failed (event c.args.events.now c.args.k).access then 0 else y.destination) known in
    let store : c.stores-stores.result ≡ is_store (event c.args.events.now c.args.b) = c.stores-stores.ensures ∙ ap (λ (f : Event). stores f.access) at_b in
    behind_more c.args.instructions.now c.args.events.now (order_position c.args.order.now) c.args.b c.args.k c.args.behind.now
    (record { needed = c.needed_before.result; loads = c.is_either.result; stores = c.is_either-2.result }) c.requires.earlier
    (c.is_same_hart.ensures.0 c.if-not-is_same_hart.false)
    (record {
      kept = λ q other yes. c.needed_before.ensures.kept q (λ e. other (e ∙ to)) yes;
      carried = λ carries yes. subst (NeedsAll c.needed_before.result) known
          (c.needed_before.ensures.carried (ap (λ (x : Registers). x.carries) known ∙ carries) (ap (λ q. get_or c.args.behind.now.needed q false) to ∙ yes));
      steered = λ s steers. subst (NeedsAll c.needed_before.result) known (c.needed_before.ensures.steered (store ∙ s) (ap (λ (x : Registers). x.steers) known ∙ steers));
      address = λ s. subst (λ (x : Registers). get_or c.needed_before.result x.address false ≡ true) known (c.needed_before.ensures.address (store ∙ s));
      forwarded_address = λ r. subst (λ (x : Registers). get_or c.needed_before.result x.address false ≡ true) known (c.needed_before.ensures.forwarded_address (c.returns-forwards.ensures.1 r));
      forwarded_value = λ r. subst (λ (x : Registers). get_or c.needed_before.result x.value false ≡ true) known (c.needed_before.ensures.forwarded_value (c.returns-forwards.ensures.1 r));
      loads = c.is_either.ensures ∙ ap (λ v. c.args.behind.now.loads || v) (c.keeps_loads.ensures
          ∙ ap (λ (e : Event). keeps_loads e.access c.event_at-second.result.access) at ∙ ap (λ (e : Event). keeps_loads (event c.args.events.now c.args.k).access e.access) at_b);
      stores = c.is_either-2.ensures ∙ ap (λ v. c.args.behind.now.stores || v) (c.keeps_stores.ensures
          ∙ ap (λ (e : Event). keeps_stores e.access c.event_at-second.result.access) at ∙ ap (λ (e : Event). keeps_stores (event c.args.events.now c.args.k).access e.access) at_b);
    }) c.requires.behind
