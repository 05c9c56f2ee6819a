-- The stores that may come next: what a list of stores can be followed by.
use Rattle.std.specs.Prelude.{◌≡◌, ℕ, ◌<◌, ◌≤◌, ◌==◌, ◌⊎◌, Bool, true, List, [], ◌∷◌, ◌++◌, length, slice_index_or, count_by, Contains, Some, ◌+◌, ◌*◌}
use Rattle.pages.specs.Memory.{Memory}
use Rattle.round_schedule.specs.declared.event.Event.{Event}
use Rattle.round_schedule.specs.Accesses.{address_of, bytes_of}
use Rattle.round_schedule.specs.Accesses.{stores as writing}
use Rattle.hart_step.specs.declared.hart.Hart.{Hart}
use Rattle.hart_step.specs.DecodedCode.{decoded}
use Rattle.hart_step.specs.Console.{ConsoleState, output_room}
use Rattle.execution.specs.Executions.{Executes, Standing}
use Rattle.execution.specs.Progressing.{at_start}
use Rattle.execution_checker.specs.Allowed.{Allows}
use Rattle.all_endings.specs.Endings.{opening_bytes}
use Rattle.all_endings.specs.Factorizing.{IsOpenCall, IsFresh}
use Rattle.all_endings.specs.HartRuns.{Acts, IsPlaced, Runs, Stands}
use Rattle.all_endings.specs.RunStates.{Move, RunState, moved, operates, run_start, stores_from}
use Rattle.all_endings.specs.StoreLists.{Stored, has_byte, later, no_store, stores_of}

-- where a run stands, hart h may store this right behind the list: all that the store hangs on is known, and its bounds let it stand there
pub record Offers (image : Memory) (h : ℕ) (m : List Stored) (opening : ℕ → ℕ) (a : RunState) (s : Stored) : Type 0 where
  pub move : Move
  pub decodes : decoded image a.pc ≡ Some move.instruction
  pub acts : Acts image h m opening (λ v. v.time ≡ length m) a move
  pub stands : Stands a move
  pub time : move.time ≡ length m
  pub stores : writing move.access ≡ true
  pub hart : s.hart ≡ h
  pub address : s.address ≡ address_of move.access
  pub bytes : s.bytes ≡ bytes_of move.access
  pub number : move.written ≡ Some s.number

-- the run does each store that hart h has in the list
abbrev pub Pays : ℕ → List Stored → List Move → Type 0
Pays h m vs =
    (k : ℕ) → k < length m → (slice_index_or m k no_store).hart ≡ h → (v : Move) × Contains vs v × (writing v.access ≡ true) × (v.time ≡ k)

-- hart h, which begins as start, has a run of at most k instructions that does all its stores of the list, and on which it may store this
-- right behind the list: it does that store LATER, and goes on
pub record IsOffered (k : ℕ) (image : Memory) (h : ℕ) (m : List Stored) (opening : ℕ → ℕ) (start : Hart) (s : Stored) : Type 0 where
  pub before : List Move
  pub at : RunState
  pub leads : Runs image h m opening (run_start start) before at
  pub offers : Offers image h m opening at s
  pub next : Move
  pub decodes : decoded image at.pc ≡ Some next.instruction
  pub acts : Acts image h m opening (IsPlaced h m) at next
  pub stands : operates next ≡ true → Stands at next
  pub stores : writing next.access ≡ true
  pub late : next.time ≡ later m
  pub rest : List Move
  pub state : RunState
  pub runs : Runs image h m opening (moved h m at next) rest state
  pub pays : Pays h m (before ++ next ∷ rest)
  pub short : length (before ++ next ∷ rest) ≤ k

-- a run may still come to do each store that hart h has in the list: it did it, or its bounds for each of its bytes let it
abbrev pub MayPay : ℕ → List Stored → List Move → RunState → Type 0
MayPay h m vs a =
    (k : ℕ) → k < length m → (slice_index_or m k no_store).hart ≡ h →
    ((v : Move) × Contains vs v × (writing v.access ≡ true) × (v.time ≡ k)) ⊎ ((x : ℕ) → has_byte (slice_index_or m k no_store) x ≡ true → stores_from a x ≤ k)

-- no run of at most k instructions, which may still do its stores of the list, comes to a call whose number is unknown
abbrev pub KnowsCalls : ℕ → Memory → ℕ → List Stored → (ℕ → ℕ) → Hart → Type 0
KnowsCalls k image h m opening start =
    (vs : List Move) (a : RunState) → length vs ≤ k → Runs image h m opening (run_start start) vs a → MayPay h m vs a → IsOpenCall image a → ⊥

-- lists of stores that are closed: the empty one, and with each one those that it can be followed by
pub record IsClosed (k : ℕ) (image : Memory) (hs : List Hart) (IsNode : List Stored → Type 0) : Type 0 where
  pub begins : IsNode []
  pub grows : (m : List Stored) (h : ℕ) (start : Hart) (s : Stored) → IsNode m → h < length hs → start ≡ slice_index_or hs h start →
      IsOffered k image h m (opening_bytes image) start s → IsNode (m ++ s ∷ [])
  pub calls : (m : List Stored) (h : ℕ) (start : Hart) → IsNode m → h < length hs → start ≡ slice_index_or hs h start →
      KnowsCalls k image h m (opening_bytes image) start

-- each hart is as it begins, and no hart did more than k instructions
abbrev pub AreFresh : List Hart → Type 0
AreFresh hs = (h : ℕ) (start : Hart) → h < length hs → start ≡ slice_index_or hs h start → IsFresh start

abbrev pub AreShort : ℕ → Standing → Type 0
AreShort k q = (h : ℕ) → count_by (λ (v : Event). v.hart == h) q.events ≤ k

-- closed lists have the first n stores of each order that RVWMO allows of an execution
abbrev pub ClosedListsHaveAll : Type 0
ClosedListsHaveAll =
    (k : ℕ) (image : Memory) (hs : List Hart) (c : ConsoleState) (is_node : List Stored → Bool) → AreFresh hs → length c.output + k * length hs ≤ output_room →
    IsClosed k image hs (λ m. is_node m ≡ true) →
    (q : Standing) (g : List ℕ) → Executes image (at_start hs c) q → Allows (opening_bytes image) q g → AreShort k q →
    (n : ℕ) → length (stores_of n q.events g) ≡ n → is_node (stores_of n q.events g) ≡ true
