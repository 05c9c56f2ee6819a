-- Walks through the runs of harts against lists of those stores alone that are to nobody's own bytes.
use Rattle.std.specs.Prelude.{◌≡◌, ℕ, ◌+◌, ◌*◌, ◌<◌, ◌≤◌, ◌==◌, ◌&&◌, ◌⊎◌, not, Bool, true, false, if◌then◌else◌, List, [], length, slice_index_or, Contains, Some, None}
use Rattle.pages.specs.declared.access.Range.{Range}
use Rattle.pages.specs.Memory.{Memory, in_range}
use Rattle.rv64_decode.specs.declared.instruction.Instr.TheVariants.{Ecall}
use Rattle.round_schedule.specs.Accesses.{stores as writing}
use Rattle.hart_step.specs.declared.hart.Hart.{Hart}
use Rattle.hart_step.specs.DecodedCode.{decoded}
use Rattle.hart_step.specs.Console.{ConsoleState, output_room}
use Rattle.memory_order.specs.declared.registers.Registers.{Registers}
use Rattle.memory_order.specs.Registers.{registers_of}
use Rattle.all_endings.specs.Endings.{AllEndingsWithin, Ending, opening_bytes}
use Rattle.all_endings.specs.HartRuns.{IsPlaced, Stands}
use Rattle.all_endings.specs.Offering.{AreFresh, Offers}
use Rattle.all_endings.specs.RunStates.{Move, answers_to, operates, stores_from}
use Rattle.all_endings.specs.StoreLists.{Stored, has_byte, later, no_store}
use Rattle.all_endings.specs.Walking.{EndsAt, HartEnding, IsLookedThroughBy, IsPaid, Place, first_place, place_after, place_with}
use Rattle.private_bytes.specs.Ahead.{IsAhead}
use Rattle.private_bytes.specs.Owners.{KeepsToItself, is_own, is_private}
use Rattle.private_bytes.specs.PrivateMoves.{ActsApart, moved_privately}

-- ---- places

-- where a run of a hart is, and whether the number in x17 is a constant of the code: it is the one of the start, or was put there by an
-- instruction that looks at no register and no memory. So a call's number is known, whatever is LATER
pub record Spot : Type 0 where
  pub place : Place
  pub constant : Bool

abbrev pub looks_at_none : Registers → Bool
looks_at_none r = (r.address == 0 && r.value == 0) && (r.first == 0 && r.second == 0)

abbrev pub constant_after : Bool → Move → Bool
constant_after before v = if answers_to v.instruction == 17 then looks_at_none (registers_of v.instruction) && not (operates v) else before

abbrev pub first_spot : Hart → Spot
first_spot start = record { place = first_place start; constant = true }

-- an operation on own bytes pays no store of the list
abbrev pub place_apart : (ℕ → ℕ → Bool) → ℕ → List Stored → Place → Move → Place
place_apart owns h m p v = if is_private owns h v.access then record p { state = moved_privately h m p.state v; count = p.count + 1 } else place_after h m p v

abbrev pub spot_after : (ℕ → ℕ → Bool) → ℕ → List Stored → Spot → Move → Spot
spot_after owns h m p v = record { place = place_apart owns h m p.place v; constant = constant_after p.constant v }

abbrev pub spot_with : Spot → Stored → Spot
spot_with p s = record p { place = place_with p.place s }

-- a spot can stand for another one: as a place can (`StandsFor`), but it may know more as well, and claims no constant that isn't one there
pub record StandsForApart (m : List Stored) (p q : Spot) : Type 0 where
  pub state : IsAhead p.place.state q.place.state
  pub count : p.place.count ≤ q.place.count
  pub paid : (j : ℕ) → j < length m → q.place.paid j ≡ true → p.place.paid j ≡ true
  pub next : p.place.next ≡ q.place.next
  pub constant : p.constant ≡ true → q.constant ≡ true

abbrev pub IsCoveredApart : List Stored → List Spot → Spot → Type 0
IsCoveredApart m ps q = (p : Spot) × Contains ps p × StandsForApart m p q

-- hart h owes a store of the list that it can't do any more: its bounds let it stand behind it alone, as where an operation on one of its bytes does
-- (rule 1). A run that comes to such a place is none of an execution
pub record IsLost (h : ℕ) (m : List Stored) (p : Place) : Type 0 where
  pub store : ℕ
  pub within : store < length m
  pub hart : (slice_index_or m store no_store).hart ≡ h
  pub owed : p.paid store ≡ false
  pub byte : ℕ
  pub has : has_byte (slice_index_or m store no_store) byte ≡ true
  pub behind : store < stores_from p.state byte

-- what a move leads to is covered, or lost
abbrev pub LeadsOn : (ℕ → ℕ → Bool) → ℕ → List Stored → List Spot → Spot → Move → Type 0
LeadsOn owns h m ps p v = IsCoveredApart m ps (spot_after owns h m p v) ⊎ IsLost h m (place_apart owns h m p.place v)

-- what each move leads to by which hart h does a store to nobody's own bytes LATER
abbrev pub DoesLater : (ℕ → ℕ → Bool) → ℕ → Memory → ℕ → List Stored → List Spot → Spot → Type 0
DoesLater owns k image h m ps p =
    (v : Move) → p.place.count < k → decoded image p.place.state.pc ≡ Some v.instruction → ActsApart owns image h m (opening_bytes image) (IsPlaced h m) p.place.state v →
    (operates v ≡ true → Stands p.place.state v) → is_private owns h v.access ≡ false → writing v.access ≡ true → v.time ≡ later m → LeadsOn owns h m ps p v

-- ---- walks

-- spots of a hart's runs of at most k instructions against a list, as places are walked (`IsWalked`)
pub record IsWalkedApart (owns : ℕ → ℕ → Bool) (k : ℕ) (image : Memory) (harts h : ℕ) (m : List Stored) (start : Hart) (offered : List Stored) (ends : List HartEnding) (ps : List Spot) : Type 0 where
  pub begins : IsCoveredApart m ps (first_spot start)
  -- what the hart does there touches no byte that is another's own
  pub apart : (p : Spot) → Contains ps p → KeepsToItself owns image harts h p.place.state
  pub moves : (p : Spot) (v : Move) → Contains ps p → p.place.count < k → decoded image p.place.state.pc ≡ Some v.instruction →
      ActsApart owns image h m (opening_bytes image) (IsPlaced h m) p.place.state v → (operates v ≡ true → Stands p.place.state v) → LeadsOn owns h m ps p v
  -- of the stores that may come next those to own bytes don't matter. One that a spot is offered may come next; or the hart does it LATER, and
  -- it comes next if some spot behind owes nothing
  pub offers : (p : Spot) (s : Stored) → Contains ps p → p.place.next ≡ None → is_own owns h s.address ≡ false →
      Offers image h m (opening_bytes image) p.place.state s → Contains offered s ⊎ DoesLater owns k image h m ps (spot_with p s)
  pub grows : (p : Spot) (s : Stored) → Contains ps p → p.place.next ≡ Some s → IsPaid h m p.place → Contains offered s
  pub calls : (p : Spot) → Contains ps p → decoded image p.place.state.pc ≡ Some Ecall → p.constant ≡ true
  pub endings : (p : Spot) (e : HartEnding) → Contains ps p → EndsAt image h m p.place e → Contains ends e

-- hart h, of so many, is walked against a list, by some spots
abbrev pub HasWalkApart : (ℕ → ℕ → Bool) → ℕ → Memory → ℕ → ℕ → List Stored → Hart → List Stored → List HartEnding → Type 0
HasWalkApart owns k image harts h m start offered ends = (ps : List Spot) × IsWalkedApart owns k image harts h m start offered ends ps

-- a list of stores to nobody's own bytes is looked through
abbrev pub IsLookedThroughApart : (ℕ → ℕ → Bool) → ℕ → Memory → List Hart → List Range → List (List Stored) → List Ending → List Stored → Type 0
IsLookedThroughApart owns k image hs see nodes table m =
    IsLookedThroughBy (λ h start offered ends. HasWalkApart owns k image (length hs) h m start offered ends) image hs see nodes table m

-- the bytes that are looked at are nobody's own
abbrev pub AreNobodys : (ℕ → ℕ → Bool) → ℕ → List Range → Type 0
AreNobodys owns harts see = (r : Range) (x h : ℕ) → Contains see r → in_range r.start r.len x ≡ true → h < harts → is_own owns h x ≡ false

-- if the empty list is a node, and each node is looked through, the table has the ending of every execution that RVWMO allows of at most k
-- instructions a hart
abbrev pub PrivateTablesAreWhole : Type 0
PrivateTablesAreWhole =
    (owns : ℕ → ℕ → Bool) (k : ℕ) (image : Memory) (hs : List Hart) (c : ConsoleState) (see : List Range) (nodes : List (List Stored)) (table : List Ending) →
    AreFresh hs → length c.output + k * length hs ≤ output_room → AreNobodys owns (length hs) see → Contains nodes [] →
    ((m : List Stored) → Contains nodes m → IsLookedThroughApart owns k image hs see nodes table m) → AllEndingsWithin k image hs c see table
