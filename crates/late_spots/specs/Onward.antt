-- How the runs of a hart go on late from a place, as far as it is told at a concrete state.
use Rattle.std.specs.Prelude.{◌≡◌, ℕ, ◌<◌, Bool, true, false, List, length, slice_index_or}
use Rattle.pages.specs.Memory.{Memory}
use Rattle.round_schedule.specs.declared.access.Access.{Access}
use Rattle.hart_step.specs.Numbers.{plus}
use Rattle.memory_order.specs.Operations.{covers}
use Rattle.all_endings.specs.RunStates.{Move, RunState}
use Rattle.all_endings.specs.StoreLists.{Stored, has_byte, no_store}
use Rattle.private_bytes.specs.PrivateWalks.{Spot}
use Rattle.list_suffixes.specs.LateDebts.{IsBranchedOn, Owes}
use Rattle.list_suffixes.specs.SettledWalks.{AreAhead}
use Rattle.list_suffixes.specs.Staying.{spot_kept}
use Rattle.early_reads.specs.EarlyMaps.{EarlyMap}
use Rattle.early_reads.specs.Windows.{ArePassed, late_of}
use Rattle.late_spots.specs.declared.going_on.Onward.{Onward}
use Rattle.late_spots.specs.declared.going_on.Onward.TheVariants.{Known, Lost, Behind, Open}
use Rattle.late_spots.specs.declared.opening.Opened.{Opened}
use Rattle.late_spots.specs.declared.opening.Opened.TheVariants.{Nothing, ByMap, All}
use Rattle.late_spots.specs.LateRuns.{OpensOnly}
use Rattle.late_spots.specs.LateSpots.{IsSettledSpot}

-- ---- debts

-- hart h owes the store at a place of the list, and it writes byte x
pub record IsOwedAt (h : ℕ) (m : List Stored) (p : Spot) (j x : ℕ) : Type 0 where
  pub within : j < length m
  pub hart : (slice_index_or m j no_store).hart ≡ h
  pub owed : p.place.paid j ≡ false
  pub has : has_byte (slice_index_or m j no_store) x ≡ true

-- a hart that owes stores can't do them behind a late access: it is on a byte of one, or a load with a branch on it right behind
pub data LosesDebts (image : Memory) (h : ℕ) (m : List Stored) (p : Spot) (y : Access) : Type 0 where
  by-touch : (o : Owes h m p) → covers y o.byte ≡ true → LosesDebts image h m p y
  by-branch : Owes h m p → IsBranchedOn image p.place.state.pc → LosesDebts image h m p y

-- ---- loads

-- a move from an address makes an access, and goes on at the next word
abbrev pub MakesAt : ℕ → Access → Move → Type 0
MakesAt pc y v = (v.access ≡ y) × (v.next ≡ plus pc 4)

-- what may be loaded early behind a late access from a state, of a list up to time b
abbrev pub IsOpened : Opened → EarlyMap → ℕ → Bool → RunState → Access → Type 0
IsOpened Nothing f b owes a y = (v : Move) → MakesAt a.pc y v → OpensOnly f b owes (λ x. false) a v
IsOpened ByMap f b owes a y = (v : Move) → MakesAt a.pc y v → OpensOnly f b owes (f.bytes (late_of owes y) (plus a.pc 4)) a v
IsOpened All f b owes a y = Unit {0}

-- behind a late access from a state a hart loads before the end of the list no other bytes than such that it has passed the stores to them that are
-- laid into memory
abbrev pub OpensPassed : EarlyMap → List Bool → List Stored → Bool → RunState → Access → Type 0
OpensPassed f stays m owes a y = (bytes : ℕ → Bool) × ((v : Move) → MakesAt a.pc y v → OpensOnly f (length m) owes bytes a v) × ArePassed stays m bytes a

-- ---- spots

-- what is told of the runs that go on late from a spot is so: the spot is settled, given a new one where that is asked for
abbrev pub IsOnward : Onward → EarlyMap → (ℕ → ℕ → Bool) → Memory → ℕ → List Bool → List Stored → List Spot → Spot → Type 0
IsOnward Known f owns image h stays m new p = IsSettledSpot f owns image h stays m new p
IsOnward Lost f owns image h stays m new p = IsSettledSpot f owns image h stays m new p
IsOnward Behind f owns image h stays m new p = AreAhead new (spot_kept stays m p) → IsSettledSpot f owns image h stays m new p
IsOnward Open f owns image h stays m new p = Unit {0}
