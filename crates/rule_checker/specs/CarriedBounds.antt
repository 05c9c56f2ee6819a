-- Dependencies as the checker takes them: of each register the greatest position of what it depends on.
use Rattle.std.specs.Prelude.{◌≡◌, ℕ, ◌-◌, ◌<◌, ◌≤◌, ◌⊎◌, ◌≢◌, Bool, true, max, if◌then◌else◌, List, length, replicate, slice_index, slice_index_or}
use Rattle.rv64_decode.specs.declared.instruction.Instr.{Instr}
use Rattle.round_schedule.specs.declared.access.Access.{Access}
use Rattle.round_schedule.specs.declared.event.Event.{Event}
use Rattle.round_schedule.specs.Accesses.{stores}
use Rattle.round_schedule.specs.Positions.{event, reads_at}
use Rattle.hart_step.specs.Registers.{reg, set_reg}
use Rattle.memory_order.specs.Operations.{is_operation}
use Rattle.memory_order.specs.declared.registers.Registers.{Registers}
use Rattle.memory_order.specs.Dependencies.{AddressDependency, DataDependency, has_failed}
use Rattle.rule_checker.specs.declared.carried.Carried.{Carried}
use Rattle.memory_order.specs.Checking.{IsMax}

-- the greatest bound of an instruction's address and data, and of all its source registers
abbrev pub operand_bound : Carried → Registers → ℕ
operand_bound c x = max (reg c.registers x.address) (reg c.registers x.value)

abbrev pub sources_bound : Carried → Registers → ℕ
sources_bound c x = max (operand_bound c x) (max (reg c.registers x.first) (reg c.registers x.second))

-- the destination register of an instruction that left this access
abbrev pub destination_with : Registers → Access → ℕ
destination_with x a = if has_failed a then 0 else x.destination

-- what the destination register depends on: the instruction itself, where it is a memory operation, and what it carries on
abbrev pub result_bound : Carried → Registers → Bool → ℕ → ℕ
result_bound c x operation next = max (if operation then next else 0) (if x.carries then sources_bound c x else 0)

-- the bounds after one more instruction, whose event stands before the position next
abbrev pub carried_after : Carried → Registers → Event → ℕ → Carried
carried_after c x e next = record {
  registers = set_reg c.registers (destination_with x e.access) (result_bound c x (is_operation e) next);
  steered = (if x.steers then max c.steered (sources_bound c x) else c.steered);
  addressed = max c.addressed (reg c.registers x.address);
}

abbrev pub none_carried : Carried
none_carried = record { registers = replicate 32 0; steered = 0; addressed = 0 }

-- what a list has of a hart, by its number
abbrev pub carried_of : List Carried → ℕ → Carried
carried_of l h = slice_index_or l h none_carried

-- whether an operation may stand at a position by the rules 9, 10, 11 and 13
abbrev pub AllowedBy : Carried → Registers → Access → ℕ → Type 0
AllowedBy c x a p =
    (reg c.registers x.address ≤ p) ×
    (stores a ≡ true → (reg c.registers x.value ≤ p) × (c.steered ≤ p) × (c.addressed ≤ p))

-- of each of the first n events, the bound of what its address and data depend on
abbrev pub AreOperands : List Instr → List Event → (ℕ → ℕ) → ℕ → List ℕ → Type 0
AreOperands is t pos n v =
    (length v ≡ n) ×
    ((m : ℕ) → m < n → IsMax pos (λ a. (is_operation (event t a) ≡ true) × (AddressDependency is t a m ⊎ DataDependency is t a m)) (slice_index v m))

-- whether a byte of the operation at b may be from the store before position s of the order, where b stands at p (rule 12)
abbrev pub MayForward : List Event → List ℕ → List ℕ → ℕ → ℕ → ℕ → Type 0
MayForward t g operands b p s =
    s ≢ 0 → slice_index g (s - 1) < b → (event t (slice_index g (s - 1))).hart ≡ (event t b).hart → slice_index operands (slice_index g (s - 1)) ≤ p

abbrev pub MayForwardAll : List Event → List ℕ → List ℕ → (ℕ → ℕ) → ℕ → ℕ → Type 0
MayForwardAll t g operands sources b p = (x : ℕ) → reads_at t b x ≡ true → MayForward t g operands b p (sources x)

-- the registers of an instruction are registers
pub record AreRegisters (x : Registers) : Type 0 where
  pub address : x.address < 32
  pub value : x.value < 32
  pub first : x.first < 32
  pub second : x.second < 32
  pub destination : x.destination < 32
