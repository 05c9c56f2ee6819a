-- Tables of endings: what closed lists of stores have to leave in them.
use Rattle.std.specs.Prelude.{◌≡◌, ℕ, ◌+◌, ◌*◌, ◌<◌, ◌≤◌, Bool, true, List, [], length, map, slice_index_or, Contains, Option, Some, None}
use Rattle.pages.specs.declared.access.Range.{Range}
use Rattle.pages.specs.Memory.{Memory}
use Rattle.hart_step.specs.declared.hart.Hart.{Hart}
use Rattle.hart_step.specs.declared.hart.Stop.{Stop}
use Rattle.hart_step.specs.Console.{ConsoleState, output_room}
use Rattle.all_endings.specs.Endings.{AllEndingsWithin, Ending, bytes_from, opening_bytes}
use Rattle.all_endings.specs.Halting.{Halts, KnowsRegisters}
use Rattle.all_endings.specs.HartRuns.{Runs}
use Rattle.all_endings.specs.Offering.{AreFresh, IsClosed, Pays}
use Rattle.all_endings.specs.RunStates.{Move, RunState, run_start}
use Rattle.all_endings.specs.StoreLists.{Stored, byte_at, last_place}

-- memory after a list of stores
abbrev pub memory_of : List Stored → (ℕ → ℕ) → ℕ → ℕ
memory_of m opening x = byte_at m opening x (last_place m x (length m))

-- nothing that a run did is LATER
abbrev pub IsSettled : List Stored → RunState → Type 0
IsSettled m a = (x : ℕ) → a.touched x ≤ length m

-- hart h, which begins as start, has a run of at most k instructions that does all its stores of the list, and in which nothing is unknown
-- or LATER: it stops so, and has put this out
pub record HartEnds (k : ℕ) (image : Memory) (h : ℕ) (m : List Stored) (opening : ℕ → ℕ) (start : Hart) (stop : Option Stop) (output : List ℕ) : Type 0 where
  pub moves : List Move
  pub state : RunState
  pub runs : Runs image h m opening (run_start start) moves state
  pub pays : Pays h m moves
  pub short : length moves ≤ k
  pub knows : KnowsRegisters state
  pub settled : IsSettled m state
  pub reason : Stop
  pub stops : stop ≡ Some reason
  pub halts : Halts image state reason
  pub puts : state.output ≡ map (λ n. Some n) output

-- all harts end, with these stops and these outputs
pub record HartsEnd (k : ℕ) (image : Memory) (hs : List Hart) (m : List Stored) (stops : List (Option Stop)) (outputs : List (List ℕ)) : Type 0 where
  pub as_many_stops : length stops ≡ length hs
  pub as_many_outputs : length outputs ≡ length hs
  pub each : (h : ℕ) (start : Hart) → h < length hs → start ≡ slice_index_or hs h start →
      HartEnds k image h m (opening_bytes image) start (slice_index_or stops h None) (slice_index_or outputs h [])

-- a table has each ending to which harts come over these lists
abbrev pub HasEndings : ℕ → Memory → List Hart → List Range → (List Stored → Type 0) → List Ending → Type 0
HasEndings k image hs see IsNode table =
    (m : List Stored) (stops : List (Option Stop)) (outputs : List (List ℕ)) → IsNode m → HartsEnd k image hs m stops outputs →
    Contains table (record {
      stops = stops;
      outputs = outputs;
      seen = map (λ (r : Range). bytes_from (memory_of m (opening_bytes image)) r.start r.len) see;
    })

-- if lists are closed, and a table has the endings over them, it has the ending of every execution that RVWMO allows of at most k
-- instructions a hart. The console has room for a byte of each
abbrev pub ClosedTablesAreWhole : Type 0
ClosedTablesAreWhole =
    (k : ℕ) (image : Memory) (hs : List Hart) (c : ConsoleState) (see : List Range) (is_node : List Stored → Bool) (table : List Ending) →
    AreFresh hs → length c.output + k * length hs ≤ output_room → IsClosed k image hs (λ m. is_node m ≡ true) → HasEndings k image hs see (λ m. is_node m ≡ true) table →
    AllEndingsWithin k image hs c see table
