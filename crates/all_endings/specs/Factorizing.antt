-- What an execution is to each of its harts: a run against the first stores of the order.
use Rattle.std.specs.Prelude.{◌≡◌, ◌≢◌, ℕ, suc, ◌<◌, ◌≤◌, true, List, [], ◌∷◌, ◌++◌, length, slice_index_or, Some, None, ◌+◌}
use Rattle.pages.specs.Memory.{Memory}
use Rattle.rv64_decode.specs.declared.instruction.Instr.{Instr}
use Rattle.rv64_decode.specs.declared.instruction.Instr.TheVariants.{Ecall}
use Rattle.round_schedule.specs.Positions.{event}
use Rattle.hart_step.specs.declared.hart.Hart.{Hart}
use Rattle.hart_step.specs.DecodedCode.{decoded}
use Rattle.hart_step.specs.Console.{ConsoleState, output_room}
use Rattle.memory_order.specs.Operations.{is_store}
use Rattle.memory_order.specs.Registers.{registers_of}
use Rattle.execution.specs.Executions.{Executes, Standing}
use Rattle.execution.specs.Progressing.{at_start}
use Rattle.execution_checker.specs.Allowed.{Allows}
use Rattle.all_endings.specs.Endings.{opening_bytes}
use Rattle.all_endings.specs.HartRuns.{Runs}
use Rattle.all_endings.specs.Locality.{Knows, Refines, view}
use Rattle.all_endings.specs.RunStates.{Move, RunState, bare, behind, run_start}
use Rattle.all_endings.specs.StoreLists.{stores_of}
use Rattle.all_endings.specs.Times.{time_after, time_of}

-- a run's state is where a hart stands: the same pc, and what is known is so
pub record Lags (a : RunState) (k : Hart) : Type 0 where
  pub pc : a.pc ≡ k.pc
  pub registers : Refines a.registers k.x

-- a run begins where its hart does
abbrev pub RunsStartThere : Type 0
RunsStartThere = (k : Hart) → Lags (run_start k) k

-- a move is what was done at an index, at the time that the order gives
pub record IsMoveAt (n : ℕ) (q : Standing) (g : List ℕ) (i : ℕ) (v : Move) : Type 0 where
  pub instruction : v.instruction ≡ slice_index_or q.instructions i Ecall
  pub access : v.access ≡ bare (event q.events i).access
  pub time : behind (stores_of n q.events g) v ≡ time_after n q.events g i

-- moves are what hart h did before an index
pub data AreMoves (n h : ℕ) (q : Standing) (g : List ℕ) : ℕ → List Move → Type 0 where
  moves-none : AreMoves n h q g 0 []
  moves-other : (i : ℕ) (vs : List Move) → AreMoves n h q g i vs → (event q.events i).hart ≢ h → AreMoves n h q g (suc i) vs
  moves-own : (i : ℕ) (vs : List Move) (v : Move) → AreMoves n h q g i vs → (event q.events i).hart ≡ h → IsMoveAt n q g i v →
      AreMoves n h q g (suc i) (vs ++ v ∷ [])

-- where a branch, an indirect jump or an address is unknown
pub data IsUnknown (image : Memory) (a : RunState) : Type 0 where
  unknown-target : (i : Instr) → decoded image a.pc ≡ Some i → (registers_of i).steers ≡ true → (Knows (registers_of i) a.registers → ⊥) → IsUnknown image a
  unknown-address : (i : Instr) → decoded image a.pc ≡ Some i → view a.registers (registers_of i).address ≡ None → IsUnknown image a

-- where the number of a call is unknown
abbrev pub IsOpenCall : Memory → RunState → Type 0
IsOpenCall image a = (decoded image a.pc ≡ Some Ecall) × (view a.registers 17 ≡ None)

-- from an index on, hart h stores only behind the store that comes next
abbrev pub StoresLater : ℕ → ℕ → Standing → List ℕ → ℕ → Type 0
StoresLater n h q g i = (b : ℕ) → i ≤ b → (event q.events b).hart ≡ h → is_store (event q.events b) ≡ true → n < time_of n q.events g b

-- where a run comes to: to where its hart ended; or it breaks off, and leaves out none of its stores among the first n; or it comes to a
-- call whose number is unknown
pub data ComesTo (image : Memory) (n h : ℕ) (q : Standing) (g : List ℕ) (k : Hart) (i : ℕ) (a : RunState) : Type 0 where
  comes-to-end : i ≡ length q.events → Lags a k → ComesTo image n h q g k i a
  comes-to-unknown : IsUnknown image a → StoresLater n h q g i → ComesTo image n h q g k i a
  comes-to-call : IsOpenCall image a → ComesTo image n h q g k i a

-- hart h, which began as s and ended as k, has a run against the first n stores of the order
pub record Factor (image : Memory) (n h : ℕ) (q : Standing) (g : List ℕ) (s k : Hart) : Type 0 where
  pub index : ℕ
  pub moves : List Move
  pub state : RunState
  pub runs : Runs image h (stores_of n q.events g) (opening_bytes image) (run_start s) moves state
  pub are_moves : AreMoves n h q g index moves
  pub comes_to : ComesTo image n h q g k index state

-- a hart as it begins: it has 32 registers, and runs
pub record IsFresh (s : Hart) : Type 0 where
  pub registers : length s.x ≡ 32
  pub runs : s.stop ≡ None

-- the console has room for a byte of each instruction
abbrev pub HasRoom : ConsoleState → Standing → Type 0
HasRoom c q = length c.output + length q.events ≤ output_room

-- each hart of an execution that RVWMO allows has a run against the first n stores of the order, whose moves are what the hart did, at
-- the times that the order gives
abbrev pub Factorizes : Type 0
Factorizes =
    (image : Memory) (hs : List Hart) (c : ConsoleState) (q : Standing) (g : List ℕ) → Executes image (at_start hs c) q → Allows (opening_bytes image) q g → HasRoom c q →
    (n h : ℕ) (s k : Hart) → length (stores_of n q.events g) ≡ n → h < length hs → s ≡ slice_index_or hs h s → IsFresh s →
    k ≡ slice_index_or q.harts h k → Factor image n h q g s k
