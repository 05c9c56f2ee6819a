use Rattle.std.proofs.Common.{◌≡◌, true, false, get_or, subst, refl, arith}
use Rattle.memory_order.specs.declared.registers.Registers.{Registers}
use Rattle.memory_order.specs.Dependencies.{registers_at}
use Rattle.order_rules.proofs.Following.{registers_read}
use Rattle.order_rules.proofs.Going.{behind_itself}
use Rattle.order_rules.proofs.behind.behind_itself.Goals as goal

pub returns : goal.returns
returns c = λ pos.
    let known : c.used_registers-used.result ≡ registers_at c.args.instructions.now c.args.b =
    registers_read c.args.instructions.now c.args.b c.used_registers-used.result c.index-instructions-b.result (omega (arith, c.requires.along, c.requires.within)) c.used_registers-used.ensures c.index-instructions-b.is in
    behind_itself c.args.instructions.now c.args.events.now pos c.args.b (record { needed = c.with_register.result; loads = false; stores = false })
    (subst (λ (x : Registers). get_or c.with_register.result x.address false ≡ true) known (c.with_register.ensures.kept c.used_registers-used.result.address (c.with_register-needed.ensures.there refl)))
    (subst (λ (x : Registers). get_or c.with_register.result x.value false ≡ true) known (c.with_register.ensures.there refl))
