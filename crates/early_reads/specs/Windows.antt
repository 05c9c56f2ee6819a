-- What a hart may load early, behind a late operation: before a time at or behind which that operation stands. Beside each bound is the manual's rule
-- (section 14.1.3) that it is kept for.
use Rattle.std.specs.Prelude.{◌≡◌, ℕ, ◌<◌, ◌≤◌, ◌&&◌, ◌||◌, ◌⊎◌, not, Bool, true, false, max, if◌then◌else◌, List, slice_index_or}
use Rattle.round_schedule.specs.declared.access.Access.{Access}
use Rattle.round_schedule.specs.Accesses.{loads}
use Rattle.round_schedule.specs.Accesses.{stores as writing}
use Rattle.memory_order.specs.CheckingProgram.{orders_loads}
use Rattle.memory_order.specs.Operations.{is_acquire}
use Rattle.rule_checker.specs.Kinds.{loads_loads}
use Rattle.all_endings.specs.RunStates.{Move, RunState, moved}
use Rattle.all_endings.specs.StoreLists.{Stored, has_byte, no_store}
use Rattle.private_bytes.specs.Owners.{is_private}
use Rattle.private_bytes.specs.PrivateMoves.{moved_privately}
use Rattle.list_suffixes.specs.Staying.{stays_at}
use Rattle.early_reads.specs.declared.early_point.LateKinds.{LateKinds}

-- what is late behind an operation that is, of a hart that owes stores of a list, or none
abbrev pub late_of : Bool → Access → LateKinds
late_of owes a = record { loads = loads a; stores = writing a; owes = owes }

-- a store to nobody's own bytes is late, unless it may be one that the hart owes
abbrev pub late_with : (ℕ → ℕ → Bool) → ℕ → LateKinds → Access → LateKinds
late_with owns h l a =
    if not l.owes && (writing a && not (is_private owns h a)) then record { loads = l.loads || loads a; stores = true; owes = l.owes } else l

-- whether no load behind an access is early: it is a fence that orders what is late before loads (rule 4), or an acquire that stores and so is late
-- (rule 5), where the hart owes none
abbrev pub shuts : LateKinds → Access → Bool
shuts l a = (l.loads && loads_loads a) || ((l.stores && orders_loads a) || (not l.owes && (writing a && is_acquire a)))

-- ---- states

-- the least time of each load that comes (rules 4 and 5)
abbrev pub loads_from : RunState → ℕ
loads_from a = max a.kinds.acquires (max a.kinds.load_load a.kinds.store_load)

-- what is late was done, at or behind time b
pub record DidLate (b : ℕ) (l : LateKinds) (a : RunState) : Type 0 where
  pub loads : l.loads ≡ true → b ≤ a.kinds.loads
  pub stores : l.stores ≡ true → b ≤ a.kinds.stores

-- what a move leaves, against a list of stores to nobody's own bytes
abbrev pub left_by_move : (ℕ → ℕ → Bool) → ℕ → List Stored → RunState → Move → RunState
left_by_move owns h m a v = if is_private owns h v.access then moved_privately h m a v else moved h m a v

-- ---- loads

-- a store at a place that writes one of some bytes was seen (rule 2), or stands before each load that comes
abbrev pub IsPassedAt : (ℕ → Bool) → RunState → ℕ → Stored → Type 0
IsPassedAt bytes a k s = (x : ℕ) → bytes x ≡ true → has_byte s x ≡ true → (k < a.seen x) ⊎ (k < loads_from a)

-- so do the stores of a list that are laid into memory
abbrev pub ArePassed : List Bool → List Stored → (ℕ → Bool) → RunState → Type 0
ArePassed stays m bytes a = (k : ℕ) → stays_at stays k ≡ false → IsPassedAt bytes a k (slice_index_or m k no_store)
