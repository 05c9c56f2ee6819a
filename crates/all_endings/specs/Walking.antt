-- Walks through the runs of a hart: sets of places that can be checked place by place, move by move.
use Rattle.std.specs.Prelude.{◌≡◌, ℕ, ◌+◌, ◌*◌, ◌<◌, ◌≤◌, ◌==◌, ◌&&◌, ◌||◌, ◌⊎◌, Bool, true, false, List, [], ◌∷◌, ◌++◌, length, map, slice_index_or, Contains, Option, Some, None}
use Rattle.pages.specs.declared.access.Range.{Range}
use Rattle.pages.specs.Memory.{Memory}
use Rattle.round_schedule.specs.Accesses.{stores as writing}
use Rattle.hart_step.specs.declared.hart.Hart.{Hart}
use Rattle.hart_step.specs.declared.hart.Stop.{Stop}
use Rattle.hart_step.specs.DecodedCode.{decoded}
use Rattle.hart_step.specs.Console.{ConsoleState, output_room}
use Rattle.all_endings.specs.Endings.{AllEndingsWithin, Ending, bytes_from, opening_bytes}
use Rattle.all_endings.specs.Factorizing.{IsOpenCall}
use Rattle.all_endings.specs.Halting.{Halts, KnowsRegisters}
use Rattle.all_endings.specs.HartRuns.{Acts, IsPlaced, Stands}
use Rattle.all_endings.specs.Lowering.{IsLower}
use Rattle.all_endings.specs.Offering.{AreFresh, Offers}
use Rattle.all_endings.specs.RunStates.{Move, RunState, moved, operates, run_start}
use Rattle.all_endings.specs.StoreLists.{Stored, no_store}
use Rattle.all_endings.specs.Tables.{IsSettled, memory_of}

-- where a run of a hart is: its state, how many instructions it did, which stores of the list, and the store that comes next, if it was offered one
pub record Place : Type 0 where
  pub state : RunState
  pub count : ℕ
  pub paid : ℕ → Bool
  pub next : Option Stored

abbrev pub first_place : Hart → Place
first_place start = record { state = run_start start; count = 0; paid = λ j. false; next = None }

abbrev pub place_after : ℕ → List Stored → Place → Move → Place
place_after h m p v = record {
  state = moved h m p.state v;
  count = p.count + 1;
  paid = λ j. p.paid j || (writing v.access && v.time == j);
  next = p.next;
}

abbrev pub place_with : Place → Stored → Place
place_with p s = record { state = p.state; count = p.count; paid = p.paid; next = Some s }

-- a place can stand for another one: it is lower, was reached by no more instructions, and owes nothing of the list that the other one doesn't
pub record StandsFor (m : List Stored) (p q : Place) : Type 0 where
  pub state : IsLower p.state q.state
  pub count : p.count ≤ q.count
  pub paid : (j : ℕ) → j < length m → q.paid j ≡ true → p.paid j ≡ true
  pub next : p.next ≡ q.next

abbrev pub IsCovered : List Stored → List Place → Place → Type 0
IsCovered m ps q = (p : Place) × Contains ps p × StandsFor m p q

-- hart h owes no store of the list
abbrev pub IsPaid : ℕ → List Stored → Place → Type 0
IsPaid h m p = (j : ℕ) → j < length m → (slice_index_or m j no_store).hart ≡ h → p.paid j ≡ true

-- a hart's end: how it stops, and what it has put out
pub record HartEnding : Type 0 where
  pub stop : Stop
  pub output : List ℕ

-- hart h, which owes nothing and of which nothing is unknown or LATER, ends so at a place
pub record EndsAt (image : Memory) (h : ℕ) (m : List Stored) (p : Place) (e : HartEnding) : Type 0 where
  pub pays : IsPaid h m p
  pub knows : KnowsRegisters p.state
  pub settled : IsSettled m p.state
  pub halts : Halts image p.state e.stop
  pub puts : p.state.output ≡ map (λ n. Some n) e.output

-- places of a hart's runs of at most k instructions against a list, with the stores that may come next, and the hart's ends
pub record IsWalked (k : ℕ) (image : Memory) (h : ℕ) (m : List Stored) (start : Hart) (offered : List Stored) (ends : List HartEnding) (ps : List Place) : Type 0 where
  -- the first place is covered, and what each move of each place leads to
  pub begins : IsCovered m ps (first_place start)
  pub moves : (p : Place) (v : Move) → Contains ps p → p.count < k → decoded image p.state.pc ≡ Some v.instruction →
      Acts image h m (opening_bytes image) (IsPlaced h m) p.state v → (operates v ≡ true → Stands p.state v) → IsCovered m ps (place_after h m p v)
  -- a store that a place is offered may come next, or the place with it is covered: then it comes next if some place behind owes nothing
  pub offers : (p : Place) (s : Stored) → Contains ps p → p.next ≡ None → Offers image h m (opening_bytes image) p.state s →
      Contains offered s ⊎ IsCovered m ps (place_with p s)
  pub grows : (p : Place) (s : Stored) → Contains ps p → p.next ≡ Some s → IsPaid h m p → Contains offered s
  pub calls : (p : Place) → Contains ps p → IsOpenCall image p.state → ⊥
  pub endings : (p : Place) (e : HartEnding) → Contains ps p → EndsAt image h m p e → Contains ends e

-- hart h is walked against a list, by some places
abbrev pub HasWalk : ℕ → Memory → ℕ → List Stored → Hart → List Stored → List HartEnding → Type 0
HasWalk k image h m start offered ends = (ps : List Place) × IsWalked k image h m start offered ends ps

-- an end of each hart, out of those that it may have
pub record AreEndsOf (ways : List (List HartEnding)) (es : List HartEnding) : Type 0 where
  pub as_many : length es ≡ length ways
  pub each : (h : ℕ) (d : HartEnding) → h < length ways → Contains (slice_index_or ways h []) (slice_index_or es h d)

-- the ending of harts that end so, over the bytes that are looked at
abbrev pub ending_with : List HartEnding → List (List ℕ) → Ending
ending_with es seen = record { stops = map (λ (e : HartEnding). Some e.stop) es; outputs = map (λ (e : HartEnding). e.output) es; seen = seen }

-- the bytes of ranges after a list of stores
abbrev pub seen_after : Memory → List Range → List Stored → List (List ℕ)
seen_after image see m = map (λ (r : Range). bytes_from (memory_of m (opening_bytes image)) r.start r.len) see

-- a list is looked through: each hart is walked, in the sense of `Walks`, the lists that it can be followed by are nodes, and a table has each
-- ending over it
pub record IsLookedThroughBy (Walks : ℕ → Hart → List Stored → List HartEnding → Type 0) (image : Memory) (hs : List Hart) (see : List Range) (nodes : List (List Stored)) (table : List Ending) (m : List Stored) : Type 0 where
  pub offered : ℕ → List Stored
  pub ways : List (List HartEnding)
  pub as_many : length ways ≡ length hs
  pub walks : (h : ℕ) (start : Hart) → h < length hs → start ≡ slice_index_or hs h start → Walks h start (offered h) (slice_index_or ways h [])
  pub grows : (h : ℕ) (s : Stored) → h < length hs → Contains (offered h) s → Contains nodes (m ++ s ∷ [])
  pub has : (es : List HartEnding) → AreEndsOf ways es → Contains table (ending_with es (seen_after image see m))

abbrev pub IsLookedThrough : ℕ → Memory → List Hart → List Range → List (List Stored) → List Ending → List Stored → Type 0
IsLookedThrough k image hs see nodes table m = IsLookedThroughBy (λ h start offered ends. HasWalk k image h m start offered ends) image hs see nodes table m

-- if the empty list is a node, and each node is looked through, the table has the ending of every execution that RVWMO allows of at most k
-- instructions a hart
abbrev pub WalkedTablesAreWhole : Type 0
WalkedTablesAreWhole =
    (k : ℕ) (image : Memory) (hs : List Hart) (c : ConsoleState) (see : List Range) (nodes : List (List Stored)) (table : List Ending) →
    AreFresh hs → length c.output + k * length hs ≤ output_room → Contains nodes [] →
    ((m : List Stored) → Contains nodes m → IsLookedThrough k image hs see nodes table m) → AllEndingsWithin k image hs c see table
