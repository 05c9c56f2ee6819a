-- The wider rule for traces, which say nothing of registers, orders all that the rules 9 to 13 do.
use Rattle.std.specs.Prelude.{◌≡◌, ℕ, Bool, true, false, List, slice_index_or}
use Rattle.rv64_decode.specs.declared.instruction.Instr.{Instr}
use Rattle.rv64_decode.specs.declared.instruction.Instr.TheVariants.{Ecall, Sb, Sh, Sw, Sd}
use Rattle.round_schedule.specs.declared.event.Event.{Event}
use Rattle.round_schedule.specs.Positions.{event}
use Rattle.memory_order.specs.Operations.{is_plain_store}
use Rattle.memory_order.specs.Rvwmo.{MeetsRvwmo, MeetsRvwmoBy}
use Rattle.memory_order.specs.Dependencies.{DependencyRule}

abbrev pub is_store_instruction : Instr → Bool
is_store_instruction (Sb rs1 rs2 imm) = true
is_store_instruction (Sh rs1 rs2 imm) = true
is_store_instruction (Sw rs1 rs2 imm) = true
is_store_instruction (Sd rs1 rs2 imm) = true
is_store_instruction _ = false

-- each plain store among the events is that of a store instruction
abbrev pub StoresAreOfStores : List Instr → List Event → Type 0
StoresAreOfStores is t =
    (i : ℕ) → is_plain_store (event t i).access ≡ true → is_store_instruction (slice_index_or is i Ecall) ≡ true

abbrev pub WiderRuleIsWider : Type 0
WiderRuleIsWider =
    (is : List Instr) (t : List Event) (opening : ℕ → ℕ) (g : List ℕ) → StoresAreOfStores is t →
    MeetsRvwmo t opening g → MeetsRvwmoBy (DependencyRule is t) t opening g
