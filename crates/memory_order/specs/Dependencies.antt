-- Syntactic dependencies (manual, section 14.1.2), along the instructions of harts: one event of a trace for each
-- instruction, in program order. The event of an instruction without an access is a fence that orders nothing.
use Rattle.std.specs.Prelude.{◌≡◌, ◌≢◌, ℕ, ◌<◌, ◌⊎◌, Bool, true, false, if◌then◌else◌, List, slice_index_or, Option, Some, None}
use Rattle.rv64_decode.specs.declared.instruction.Instr.{Instr}
use Rattle.rv64_decode.specs.declared.instruction.Instr.TheVariants.{Ecall}
use Rattle.round_schedule.specs.declared.access.Access.{Access}
use Rattle.round_schedule.specs.declared.access.Access.TheVariants.{StoreConditional}
use Rattle.round_schedule.specs.declared.event.Event.{Event}
use Rattle.round_schedule.specs.Positions.{ProgramBefore, event, reads_at}
use Rattle.memory_order.specs.Operations.{is_operation, is_store}
use Rattle.memory_order.specs.Rvwmo.{IsSource}
use Rattle.memory_order.specs.declared.registers.Registers.{Registers}
use Rattle.memory_order.specs.Registers.{registers_of}

-- the registers of the instruction at an index; past the end there are none
abbrev pub registers_at : List Instr → ℕ → Registers
registers_at is i = registers_of (slice_index_or is i Ecall)

-- an SC that failed
abbrev pub has_failed : Access → Bool
has_failed (StoreConditional w o p a None) = true
has_failed _ = false

-- the destination register of the instruction at an index; an SC that failed has none
abbrev pub destination_at : List Instr → List Event → ℕ → ℕ
destination_at is t i = if has_failed (event t i).access then 0 else (registers_at is i).destination

-- r is one of the source registers
abbrev pub IsSourceRegister : Registers → ℕ → Type 0
IsSourceRegister x r = ((r ≡ x.address) ⊎ (r ≡ x.value)) ⊎ ((r ≡ x.first) ⊎ (r ≡ x.second))

-- of the instructions of hart h before index j, the last that has r as its destination is at i
pub record IsLastWriter (is : List Instr) (t : List Event) (h j r i : ℕ) : Type 0 where
  pub earlier : i < j
  pub hart : (event t i).hart ≡ h
  pub register : r ≢ 0
  pub destination : destination_at is t i ≡ r
  pub last : (k : ℕ) → i < k → k < j → (event t k).hart ≡ h → destination_at is t k ≢ r

-- an instruction of hart h at index j has a syntactic dependency on the one at i via its source register r
pub data Depends (is : List Instr) (t : List Event) (h : ℕ) : ℕ → ℕ → ℕ → Type 0 where
  -- i has r as its destination, and no instruction between has
  directly : (j r i : ℕ) → IsLastWriter is t h j r i → Depends is t h j r i
  -- it has one on an instruction at m, which carries it on from its source register p
  through : (j r m p i : ℕ) → Depends is t h j r m → (registers_at is m).carries ≡ true → IsSourceRegister (registers_at is m) p →
      Depends is t h m p i → Depends is t h j r i

-- the instruction at b depends on the one at a via its address source register, via its data source register, or via any
abbrev pub AddressDependency : List Instr → List Event → ℕ → ℕ → Type 0
AddressDependency is t a b = Depends is t (event t b).hart b (registers_at is b).address a

abbrev pub DataDependency : List Instr → List Event → ℕ → ℕ → Type 0
DataDependency is t a b = Depends is t (event t b).hart b (registers_at is b).value a

abbrev pub AnyDependency : List Instr → List Event → ℕ → ℕ → Type 0
AnyDependency is t a b = (r : ℕ) × IsSourceRegister (registers_at is b) r × Depends is t (event t b).hart b r a

-- a branch or an indirect jump between them depends on a
abbrev pub ControlDependency : List Instr → List Event → ℕ → ℕ → Type 0
ControlDependency is t a b = (m : ℕ) × ProgramBefore t m b × ((registers_at is m).steers ≡ true) × AnyDependency is t a m

-- the rules 9 to 13 of preserved program order, in the manual's order (section 14.1.3)
pub data DependencyRule (is : List Instr) (t : List Event) (pos : ℕ → ℕ) (a b : ℕ) : Type 0 where
  by-address : AddressDependency is t a b → DependencyRule is t pos a b
  by-data : is_store (event t b) ≡ true → DataDependency is t a b → DependencyRule is t pos a b
  by-control : is_store (event t b) ≡ true → ControlDependency is t a b → DependencyRule is t pos a b
  by-forwarding : (m x : ℕ) → ProgramBefore t m b → AddressDependency is t a m ⊎ DataDependency is t a m → reads_at t b x ≡ true →
      IsSource t pos b x (Some m) → DependencyRule is t pos a b
  by-address-between : (m : ℕ) → is_store (event t b) ≡ true → ProgramBefore t m b → AddressDependency is t a m → DependencyRule is t pos a b

-- what these rules order before b stands before it
abbrev pub RespectsAt : List Instr → List Event → (ℕ → ℕ) → ℕ → Type 0
RespectsAt is t pos b = (a : ℕ) → is_operation (event t a) ≡ true → DependencyRule is t pos a b → pos a < pos b

abbrev pub RespectsDependencies : List Instr → List Event → (ℕ → ℕ) → Type 0
RespectsDependencies is t pos = (b : ℕ) → is_operation (event t b) ≡ true → RespectsAt is t pos b
