-- What depends on one operation, instruction by instruction of its hart.
use Rattle.std.specs.Prelude.{◌≡◌, ℕ, ◌<◌, ◌==◌, ◌&&◌, ◌||◌, ◌↔◌, Bool, true, false, if◌then◌else◌, List, length, slice_index_or, slice_set}
use Rattle.rv64_decode.specs.declared.instruction.Instr.{Instr}
use Rattle.round_schedule.specs.declared.event.Event.{Event}
use Rattle.round_schedule.specs.Positions.{event}
use Rattle.memory_order.specs.declared.registers.Registers.{Registers}
use Rattle.memory_order.specs.Dependencies.{AddressDependency, AnyDependency, Depends, registers_at}
use Rattle.order_rules.specs.declared.dependents.Dependents.{Dependents}

abbrev pub is_dependent : Dependents → ℕ → Bool
is_dependent d r = slice_index_or d.registers r false

-- whether one of an instruction's source registers depends on it
abbrev pub any_source : Dependents → Registers → Bool
any_source d x = is_dependent d x.address || is_dependent d x.value || is_dependent d x.first || is_dependent d x.second

abbrev pub marked : List Bool → ℕ → Bool → List Bool
marked xs r v = if r == 0 then xs else slice_set xs r v

-- after one more instruction with this destination, which is the operation itself or not
abbrev pub dependents_after : Dependents → Registers → ℕ → Bool → Dependents
dependents_after d x destination itself = record {
  registers = marked d.registers destination (itself || (x.carries && any_source d x));
  steered = d.steered || (x.steers && any_source d x);
  addressed = d.addressed || is_dependent d x.address;
}

-- of hart h before index j, what depends on the instruction at i
pub record AreDependents (is : List Instr) (t : List Event) (i h j : ℕ) (d : Dependents) : Type 0 where
  pub size : length d.registers ≡ 32
  pub registers : (r : ℕ) → r < 32 → (is_dependent d r ≡ true) ↔ Depends is t h j r i
  pub steered : (d.steered ≡ true) ↔
      ((m : ℕ) × (m < j) × ((event t m).hart ≡ h) × ((registers_at is m).steers ≡ true) × AnyDependency is t i m)
  pub addressed : (d.addressed ≡ true) ↔ ((m : ℕ) × (m < j) × ((event t m).hart ≡ h) × AddressDependency is t i m)

-- the registers of an instruction are registers
pub record AreRegisters (x : Registers) : Type 0 where
  pub address : x.address < 32
  pub value : x.value < 32
  pub first : x.first < 32
  pub second : x.second < 32
