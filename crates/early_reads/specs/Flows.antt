-- Where an instruction leads, what it puts into a register, and which access it makes, as far as the code tells.
use Rattle.std.specs.Prelude.{◌≡◌, ℕ, ◌⊎◌, Bool, true, false, List, Option, Some, None}
use Rattle.pages.specs.Memory.{Memory}
use Rattle.round_schedule.specs.declared.access.Access.{Access}
use Rattle.round_schedule.specs.declared.access.Access.TheVariants.{Load, Store, LoadReserved, StoreConditional, Atomic, Fence}
use Rattle.round_schedule.specs.Accesses.{is_sc, loads}
use Rattle.round_schedule.specs.Accesses.{stores as writing}
use Rattle.rv64_decode.specs.declared.instruction.Instr.{Instr}
use Rattle.rv64_decode.specs.declared.instruction.Instr.TheVariants.{Jal, Jalr, Beq, Bne, Blt, Bge, Bltu, Bgeu}
use Rattle.hart_step.specs.Effect.{Action, Put, Jump, Read, Write, Order, Reserve, Conditional, Exchange, action}
use Rattle.hart_step.specs.Numbers.{plus}
use Rattle.hart_step.specs.Registers.{reg}
use Rattle.execution.specs.Executions.{no_access}
use Rattle.memory_order.specs.Registers.{registers_of}
use Rattle.all_endings.specs.HartRuns.{IsPlaced}
use Rattle.all_endings.specs.Locality.{view}
use Rattle.all_endings.specs.RunStates.{Move, RunState}
use Rattle.all_endings.specs.StoreLists.{Stored}
use Rattle.private_bytes.specs.PrivateMoves.{ActsApart}
use Rattle.early_reads.specs.declared.flow.Flow.{Flow}
use Rattle.early_reads.specs.declared.flow.Flow.TheVariants.{On, Jump as JumpBy, Turn, Branch as BranchBy}
use Rattle.early_reads.specs.declared.flow.Targets.{Targets}
use Rattle.early_reads.specs.declared.flow.Targets.TheVariants.{One, Two, Anywhere}
use Rattle.early_reads.specs.EarlyMaps.{Agrees}

-- ---- by the instruction

abbrev pub flow_of : Instr → Flow
flow_of (Jal rd imm) = JumpBy imm
flow_of (Jalr rd rs1 imm) = Turn rs1 imm
flow_of (Beq rs1 rs2 imm) = BranchBy imm
flow_of (Bne rs1 rs2 imm) = BranchBy imm
flow_of (Blt rs1 rs2 imm) = BranchBy imm
flow_of (Bge rs1 rs2 imm) = BranchBy imm
flow_of (Bltu rs1 rs2 imm) = BranchBy imm
flow_of (Bgeu rs1 rs2 imm) = BranchBy imm
flow_of _ = On

-- ---- by its action

-- the access, without numbers; of an SC that of one that writes
abbrev pub access_in : Action → Access
access_in (Read rd a w signed) = Load w 0 a 0
access_in (Write a w v) = Store w 0 a 0
access_in (Reserve rd a w o) = LoadReserved w o 0 a 0
access_in (Conditional rd a w v o) = StoreConditional w o 0 a (Some 0)
access_in (Exchange rd a w f o) = Atomic w o 0 a 0 0
access_in (Order before after mode) = Fence before after mode 0
access_in _ = no_access

-- the number that it puts into its register, where that comes from no memory and no call
abbrev pub number_in : ℕ → Action → Option ℕ
number_in pc (Put rd n) = Some n
number_in pc (Jump rd target) = Some (plus pc 4)
number_in pc _ = None

-- ---- moves

-- what is said of each move of an instruction at an address, from a state that agrees with some constants
abbrev pub MovesFrom : List (Option ℕ) → ℕ → Instr → (RunState → Move → Type 0) → Type 0
MovesFrom k pc i P =
    (owns : ℕ → ℕ → Bool) (image : Memory) (h : ℕ) (m : List Stored) (opening : ℕ → ℕ) (a : RunState) (v : Move) → a.pc ≡ pc → v.instruction ≡ i →
    ActsApart owns image h m opening (IsPlaced h m) a v → Agrees k a.registers → P a v

-- an address is one of those that an instruction may lead to
abbrev pub IsAmong : Targets → ℕ → Type 0
IsAmong (One n) next = next ≡ n
IsAmong (Two n l) next = (next ≡ n) ⊎ (next ≡ l)
IsAmong Anywhere next = Unit {0}

-- registers hold the constants among an instruction's operands
pub record HoldsOperands (i : Instr) (k : List (Option ℕ)) (x : List ℕ) : Type 0 where
  pub first : (n : ℕ) → view k (registers_of i).first ≡ Some n → reg x (registers_of i).first ≡ n
  pub second : (n : ℕ) → view k (registers_of i).second ≡ Some n → reg x (registers_of i).second ≡ n

-- an instruction puts this number into its register, over the constants
abbrev pub IsPut : Instr → List (Option ℕ) → ℕ → ℕ → Type 0
IsPut i k pc n = (x : List ℕ) → HoldsOperands i k x → number_in pc (action i x pc) ≡ Some n

-- ---- accesses

-- without the address
abbrev pub unplaced : Access → Access
unplaced (Load w p a r) = Load w p 0 r
unplaced (Store w p a v) = Store w p 0 v
unplaced (LoadReserved w o p a r) = LoadReserved w o p 0 r
unplaced (StoreConditional w o p a v) = StoreConditional w o p 0 v
unplaced (Atomic w o p a r v) = Atomic w o p 0 r v
unplaced (Fence before after mode p) = Fence before after mode p

-- y is an SC that stores, and z the same that failed: it is no operation
pub record FailsThere (z y : Access) : Type 0 where
  pub sc : is_sc y ≡ true
  pub store : writing y ≡ true
  pub dry : writing z ≡ false
  pub no_load : loads z ≡ false

-- z is the access y over constants, at the same address where this comes from constants alone; an SC may fail
abbrev pub IsOver : Bool → Access → Access → Type 0
IsOver known y z = ((unplaced z ≡ unplaced y) × (known ≡ true → z ≡ y)) ⊎ FailsThere z y
