-- What an instruction of a run does, and what is found of it.
use Rattle.std.specs.Prelude.{◌≡◌, ◌≢◌, ℕ, ◌+◌, ◌≤◌, ◌<◌, ◌==◌, ◌⊎◌, ◌&&◌, Bool, true, false, if◌then◌else◌, List, length, slice_index, slice_index_or, option_map, is_some, Option, Some, None}
use Rattle.pages.specs.Memory.{Memory, width_bytes}
use Rattle.round_schedule.specs.declared.access.Access.{Access}
use Rattle.round_schedule.specs.declared.access.Access.TheVariants.{Fence, StoreConditional as ScOf}
use Rattle.round_schedule.specs.Accesses.{loads}
use Rattle.round_schedule.specs.Accesses.{stores as writing}
use Rattle.rv64_decode.specs.declared.atomic.Atomic.{Atomic as AmoWord}
use Rattle.rv64_decode.specs.declared.atomic.Atomic.TheVariants.{Operation as Amo}
use Rattle.rv64_decode.specs.declared.instruction.Instr.{Instr}
use Rattle.rv64_decode.specs.declared.ordering.FenceMode.{FenceMode}
use Rattle.rv64_decode.specs.declared.ordering.FenceSet.{FenceSet}
use Rattle.rv64_decode.specs.Atomics.{atomic_of}
use Rattle.hart_step.specs.declared.hart.Hart.{Hart}
use Rattle.hart_step.specs.Amo.{amo_value_of}
use Rattle.hart_step.specs.Console.{all_ones}
use Rattle.hart_step.specs.Effect.{action}
use Rattle.hart_step.specs.Numbers.{plus}
use Rattle.hart_step.specs.Step.{cut, extended_to, performed, put_to}
use Rattle.execution.specs.Executions.{no_access}
use Rattle.memory_order.specs.declared.registers.Registers.{Registers}
use Rattle.memory_order.specs.Registers.{registers_of}
use Rattle.run_bounds.specs.declared.operation.Kind.{Kind}
use Rattle.run_bounds.specs.declared.operation.Kind.TheVariants.{Load, Store, LoadReserved, StoreConditional, Atomic}
use Rattle.run_bounds.specs.declared.operation.Operation.{Operation}
use Rattle.run_bounds.specs.declared.touched.TouchedByte.{TouchedByte}
use Rattle.run_bounds.specs.Operations.{access_of}
use Rattle.all_endings.specs.Earlier.{IsNoLater}
use Rattle.all_endings.specs.HartRuns.{Gets, IsAnswer, IsReadable, IsUnbroken, IsWritable, data_of}
use Rattle.all_endings.specs.Locality.{filled, set_view, view}
use Rattle.all_endings.specs.RunStates.{Move, RunState, answers_to}
use Rattle.all_endings.specs.StoreLists.{Stored, has_byte, no_store}
use Rattle.hart_states.specs.declared.choice.Choice.{Choice}
use Rattle.hart_states.specs.Choices.{move_of}
use Rattle.hart_states.specs.Following.{place_done}
use Rattle.hart_states.specs.Readings.{IsSpan}
use Rattle.hart_moves.specs.declared.coming.Coming.{Coming}
use Rattle.hart_moves.specs.declared.loading.Got.{Got}

-- ---- memory operations

-- a load and an LR are tested as loads, the others as stores
abbrev pub reads_only : Kind → Bool
reads_only Load = true
reads_only LoadReserved = true
reads_only _ = false

-- its address is known, and memory lets it
pub record IsAble (image : Memory) (a : RunState) (i : Instr) (o : Operation) : Type 0 where
  pub address : is_some (view a.registers (registers_of i).address) ≡ true
  pub readable : reads_only o.kind ≡ true → IsReadable image o.address o.width
  pub writable : reads_only o.kind ≡ false → IsWritable image o.address o.width

-- what is known of an operation that a state comes to
pub record IsComing (a : RunState) (c : Coming) : Type 0 where
  pub used : c.used ≡ registers_of c.instruction
  pub operand : c.operand ≡ view a.registers (registers_of c.instruction).value
  pub span : IsSpan a c.known c.operation.address (width_bytes c.operation.width)

-- what gets a number from memory, and what puts one there that comes from a register
abbrev pub is_loading : Kind → Bool
is_loading Load = true
is_loading LoadReserved = true
is_loading Atomic = true
is_loading _ = false

abbrev pub is_storing : Kind → Bool
is_storing Store = true
is_storing StoreConditional = true
is_storing _ = false

-- what an AMO puts in place of a number, from its data register; other instructions put nothing there
abbrev pub put_back : Option AmoWord → ℕ → ℕ → Option ℕ
put_back (Some (Amo operation rd rs1 rs2 width ordering)) old operand = Some (amo_value_of operation width old operand)
put_back _ old operand = None

-- the same where one of the numbers may be unknown
abbrev pub exchanged : Instr → Option ℕ → Option ℕ → Option ℕ
exchanged i (Some old) (Some operand) = put_back (atomic_of i) old operand
exchanged i _ _ = None

-- a move that loads
pub record LoadsSo (m : List Stored) (opening : ℕ → ℕ) (a : RunState) (o : Operation) (v : Move) : Type 0 where
  pub kind : is_loading o.kind ≡ true
  pub access : v.access ≡ access_of o
  pub number : Option ℕ
  pub gets : Gets m opening a v o.address o.width number
  pub result : v.result ≡ option_map (extended_to o.signed o.width) number
  pub written : writing v.access ≡ true → v.written ≡ exchanged v.instruction number (data_of a v)
  pub next : v.next ≡ plus a.pc 4

-- no other hart stores to an operation's bytes between the places of their sources and a time
abbrev pub LeavesAlone : ℕ → List Stored → Operation → List ℕ → ℕ → Type 0
LeavesAlone h m o sources time =
    (k j : ℕ) → time ≤ length m → k < time → j < width_bytes o.width → has_byte (slice_index_or m k no_store) (o.address + j) ≡ true →
    (slice_index_or m k no_store).hart ≢ h → k < slice_index sources j

-- the reservation of an SC that succeeds
pub record IsReserved (h : ℕ) (m : List Stored) (a : RunState) (o : Operation) (v : Move) : Type 0 where
  pub held : a.held ≡ Some (record { address = o.address; width = o.width })
  pub behind : a.reserved ≤ v.time
  pub unbroken : IsUnbroken h m a v

-- what a move that stores leaves in its register: an SC 0
abbrev pub stored_result : Kind → Option ℕ
stored_result StoreConditional = Some 0
stored_result _ = None

-- a move that stores
pub record StoresSo (h : ℕ) (m : List Stored) (a : RunState) (o : Operation) (v : Move) : Type 0 where
  pub kind : is_storing o.kind ≡ true
  pub access : v.access ≡ access_of o
  pub written : v.written ≡ option_map (cut o.width) (data_of a v)
  pub register : set_view a.registers (answers_to v.instruction) v.result ≡ set_view a.registers (answers_to v.instruction) (stored_result o.kind)
  pub reserved : o.kind ≡ StoreConditional → IsReserved h m a o v
  pub next : v.next ≡ plus a.pc 4

-- a move of a memory operation, wherever it stands in the list
abbrev pub DoesSo : ℕ → List Stored → (ℕ → ℕ) → RunState → Operation → Move → Type 0
DoesSo h m opening a o v = LoadsSo m opening a o v ⊎ StoresSo h m a o v

-- the access of an SC that fails, and the move
abbrev pub failed_access : Operation → Access
failed_access o = ScOf o.width o.ordering 0 o.address None

pub record FailsSo (a : RunState) (o : Operation) (v : Move) : Type 0 where
  pub kind : o.kind ≡ StoreConditional
  pub access : v.access ≡ failed_access o
  pub result : v.result ≡ Some 1
  pub next : v.next ≡ plus a.pc 4

-- ---- other instructions

-- whether all source registers are known
abbrev pub knows : Registers → List (Option ℕ) → Bool
knows r v = (is_some (view v r.address) && is_some (view v r.value)) && (is_some (view v r.first) && is_some (view v r.second))

-- a move that puts a number into a register, jumps or branches: over any memory the hart goes on so
pub record ComputesSo (a : RunState) (v : Move) : Type 0 where
  pub register : ℕ
  pub number : ℕ
  pub performs : (h : Hart) (image : Memory) → h.x ≡ filled a.registers → h.pc ≡ a.pc → performed (action v.instruction h.x h.pc) h image ≡ put_to h register number v.next
  pub answers : answers_to v.instruction ≡ register
  pub result : set_view a.registers register v.result ≡ set_view a.registers register (if knows (registers_of v.instruction) a.registers then Some number else None)
  pub access : v.access ≡ no_access

-- a fence
pub record OrdersSo (before after : FenceSet) (mode : FenceMode) (a : RunState) (v : Move) : Type 0 where
  pub access : v.access ≡ Fence before after mode 0
  pub next : v.next ≡ plus a.pc 4

-- a call that goes on
pub record CallsSo (a : RunState) (v : Move) : Type 0 where
  pub number : ℕ
  pub at : view a.registers 17 ≡ Some number
  pub nonzero : number ≡ 0 → ⊥
  pub answer : ℕ
  pub answered : IsAnswer number answer
  pub access : v.access ≡ no_access
  pub result : v.result ≡ Some answer
  pub next : v.next ≡ plus a.pc 4

-- the answer of a call, where the definitions leave none open
abbrev pub answer_of : ℕ → ℕ
answer_of number = if number == 1 then 0 else all_ones

-- ---- what is found

-- what is got is what a move gets
pub record IsGot (v : Move) (address n : ℕ) (o : Option ℕ) (found : Option Got) : Type 0 where
  pub got : Got
  pub is : found ≡ Some got
  pub number : got.number ≡ o
  pub sources : (k : ℕ) → k < n → slice_index got.sources k ≡ v.source (address + k)

-- a choice does an operation that a state comes to
pub record IsChoiceOf (a : RunState) (c : Coming) (d : Choice) : Type 0 where
  pub instruction : d.instruction ≡ c.instruction
  pub access : d.access ≡ access_of c.operation
  pub next : d.next ≡ plus a.pc 4

-- what is found is a load that gets what the latest choice gets, from the same stores, and no earlier
pub record IsAgain (latest found : Option Choice) : Type 0 where
  pub earlier : Choice
  pub choice : Choice
  pub was : latest ≡ Some earlier
  pub is : found ≡ Some choice
  pub stores : writing choice.access ≡ false
  pub time : earlier.time ≤ choice.time
  pub result : earlier.result ≡ choice.result
  pub sources : earlier.sources ≡ choice.sources

-- what is found is a load, and reads no store behind what its hart has seen (rule 2)
pub record ReadsSeen (c : Coming) (found : Option Choice) : Type 0 where
  pub choice : Choice
  pub is : found ≡ Some choice
  pub loads : loads choice.access ≡ true
  pub stores : writing choice.access ≡ false
  pub seen : (k : ℕ) (d : TouchedByte) → k < width_bytes c.operation.width → slice_index choice.sources k ≤ (slice_index_or c.known k d).seen

-- what is found can stand for a move
pub record IsFound (m : List Stored) (a : RunState) (found : Option Choice) (v : Move) : Type 0 where
  pub choice : Choice
  pub is : found ≡ Some choice
  pub earlier : IsNoLater m a (move_of choice) v
  pub done : place_done (move_of choice) ≡ place_done v
