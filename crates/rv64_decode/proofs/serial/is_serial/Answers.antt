use Rattle.std.proofs.Common.{◌≡◌, refl, ap, is_some, ◌∙◌}
use Rattle.rv64_decode.specs.declared.instruction.Instr.{Instr}
use Rattle.rv64_decode.specs.declared.instruction.Instr.TheVariants.{Ecall, Fence}
use Rattle.rv64_decode.specs.declared.ordering.FenceMode.{FenceMode}
use Rattle.rv64_decode.specs.declared.ordering.FenceSet.{FenceSet}
use Rattle.rv64_decode.specs.Atomics.{atomic_of}
use Rattle.rv64_decode.specs.Serial.{is_serial_of}
use Rattle.rv64_decode.proofs.serial.is_serial.Goals as goal

by_extension : (i : Instr) → (i ≡ Ecall → ⊥) → ((before after : FenceSet) (mode : FenceMode) → i ≡ Fence before after mode → ⊥) → is_some (atomic_of i) ≡ is_serial_of i
by_extension Ecall a b = absurd (a refl)
by_extension (Fence before after mode) a b = absurd (b before after mode refl)
by_extension _ a b = refl

pub returns-in_default : goal.returns-in_default
returns-in_default c = c.is_some.ensures ∙ ap (λ a. is_some a) c.atomic.ensures ∙ by_extension c.args.i.now c.in_default.not-Ecall c.in_default.not-Fence
