-- Walks from the spots of a node, and what sets of nodes say of the endings of a program.
use Rattle.std.specs.Prelude.{◌≡◌, ℕ, ◌+◌, ◌*◌, ◌<◌, ◌≤◌, ◌⊎◌, Bool, true, false, List, [], ◌∷◌, ◌++◌, length, map, slice_index_or, Contains, Some, None}
use Rattle.pages.specs.declared.access.Range.{Range}
use Rattle.pages.specs.Memory.{Memory}
use Rattle.rv64_decode.specs.declared.instruction.Instr.TheVariants.{Ecall}
use Rattle.round_schedule.specs.Accesses.{stores as writing}
use Rattle.hart_step.specs.declared.hart.Hart.{Hart}
use Rattle.hart_step.specs.DecodedCode.{decoded}
use Rattle.hart_step.specs.Console.{ConsoleState, output_room}
use Rattle.all_endings.specs.Endings.{AllEndingsWithin, Ending, bytes_from}
use Rattle.all_endings.specs.Offering.{AreFresh, Offers}
use Rattle.all_endings.specs.RunStates.{Move}
use Rattle.all_endings.specs.StoreLists.{Stored, later}
use Rattle.all_endings.specs.Tables.{memory_of}
use Rattle.all_endings.specs.Walking.{AreEndsOf, EndsAt, HartEnding, IsPaid, ending_with}
use Rattle.private_bytes.specs.Owners.{KeepsToItself, is_own, is_private}
use Rattle.private_bytes.specs.PrivateWalks.{AreNobodys, IsCoveredApart, LeadsOn, Spot, spot_with}
use Rattle.list_suffixes.specs.ApartRuns.{MovesApart}
use Rattle.list_suffixes.specs.Serving.{IsServed, Node}

-- spots of a hart's runs of at most k instructions from those of a node, as spots are walked from the start (`IsWalkedApart`)
pub record IsWalkedFrom (owns : ℕ → ℕ → Bool) (k : ℕ) (image : Memory) (harts h : ℕ) (n : Node) (offered : List Stored) (ends : List HartEnding) (ps : List Spot) : Type 0 where
  pub begins : (p : Spot) → Contains (n.spots h) p → IsCoveredApart n.stores ps p
  pub apart : (p : Spot) → Contains ps p → KeepsToItself owns image harts h p.place.state
  pub moves : (p : Spot) (v : Move) → Contains ps p → p.place.count < k → MovesApart owns image h n.stores n.memory p v → LeadsOn owns h n.stores ps p v
  pub offers : (p : Spot) (s : Stored) → Contains ps p → p.place.next ≡ None → is_own owns h s.address ≡ false → Offers image h n.stores n.memory p.place.state s →
      Contains offered s ⊎
      ((v : Move) → p.place.count < k → MovesApart owns image h n.stores n.memory (spot_with p s) v → is_private owns h v.access ≡ false → writing v.access ≡ true → v.time ≡ later n.stores →
      LeadsOn owns h n.stores ps (spot_with p s) v)
  pub grows : (p : Spot) (s : Stored) → Contains ps p → p.place.next ≡ Some s → IsPaid h n.stores p.place → Contains offered s
  pub calls : (p : Spot) → Contains ps p → decoded image p.place.state.pc ≡ Some Ecall → p.constant ≡ true
  pub endings : (p : Spot) (e : HartEnding) → Contains ps p → EndsAt image h n.stores p.place e → Contains ends e

-- the bytes of ranges after a node's stores
abbrev pub seen_from : List Range → Node → List (List ℕ)
seen_from see n = map (λ (r : Range). bytes_from (memory_of n.stores n.memory) r.start r.len) see

-- a node is looked through: each hart is walked, each store that may come next leads to a node that serves the longer lists, and a table has each
-- ending
pub record IsLookedThroughFrom (owns : ℕ → ℕ → Bool) (k : ℕ) (image : Memory) (hs : List Hart) (see : List Range) (nodes : List Node) (table : List Ending) (n : Node) : Type 0 where
  pub offered : ℕ → List Stored
  pub ways : List (List HartEnding)
  pub as_many : length ways ≡ length hs
  pub walks : (h : ℕ) → h < length hs → (ps : List Spot) × IsWalkedFrom owns k image (length hs) h n (offered h) (slice_index_or ways h []) ps
  pub grows : (h : ℕ) (s : Stored) → h < length hs → Contains (offered h) s →
      (t : Node) × Contains nodes t × ((m : List Stored) → IsServed owns k image hs n m → IsServed owns k image hs t (m ++ s ∷ []))
  pub has : (es : List HartEnding) → AreEndsOf ways es → Contains table (ending_with es (seen_from see n))

-- if a node serves the empty list, and each node is looked through, the table has the ending of every execution that RVWMO allows of at most k
-- instructions a hart
abbrev pub NodeTablesAreWhole : Type 0
NodeTablesAreWhole =
    (owns : ℕ → ℕ → Bool) (k : ℕ) (image : Memory) (hs : List Hart) (c : ConsoleState) (see : List Range) (nodes : List Node) (table : List Ending) (first : Node) →
    AreFresh hs → length c.output + k * length hs ≤ output_room → AreNobodys owns (length hs) see → Contains nodes first → IsServed owns k image hs first [] →
    ((n : Node) → Contains nodes n → IsLookedThroughFrom owns k image hs see nodes table n) → AllEndingsWithin k image hs c see table
