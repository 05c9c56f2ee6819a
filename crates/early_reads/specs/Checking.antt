-- Maps of code as they are kept, point by point.
use Rattle.std.specs.Prelude.{◌≡◌, ℕ, ◌==◌, ◌⊎◌, Bool, true, false, if◌then◌else◌, List, [], ◌∷◌, Option, Some, None}
use Rattle.std.specs.List.{list_any}
use Rattle.pages.specs.Memory.{Memory, in_range, width_bytes}
use Rattle.round_schedule.specs.Accesses.{loads}
use Rattle.round_schedule.specs.Accesses.{stores as writing}
use Rattle.hart_step.specs.DecodedCode.{decoded}
use Rattle.memory_order.specs.Operations.{covers}
use Rattle.all_endings.specs.HartRuns.{IsPlaced}
use Rattle.all_endings.specs.Locality.{set_view}
use Rattle.all_endings.specs.RunStates.{Move, RunState, answers_to}
use Rattle.all_endings.specs.StoreLists.{Stored}
use Rattle.private_bytes.specs.Owners.{is_private}
use Rattle.private_bytes.specs.PrivateMoves.{ActsApart}
use Rattle.early_reads.specs.declared.early_point.EarlyBytes.{EarlyBytes}
use Rattle.early_reads.specs.declared.early_point.EarlyBytes.TheVariants.{All, Among}
use Rattle.early_reads.specs.declared.early_point.EarlyPoint.{EarlyPoint}
use Rattle.early_reads.specs.declared.early_point.EarlySets.{EarlySets}
use Rattle.early_reads.specs.declared.early_point.LateKinds.{LateKinds}
use Rattle.early_reads.specs.declared.early_point.LoadedBytes.{LoadedBytes}
use Rattle.early_reads.specs.EarlyMaps.{Agrees, EarlyMap}
use Rattle.early_reads.specs.Windows.{late_with, shuts}

abbrev pub is_loaded : List LoadedBytes → ℕ → Bool
is_loaded rs x = list_any (λ (r : LoadedBytes). in_range r.address (width_bytes r.width) x) rs

abbrev pub has_early : EarlyBytes → ℕ → Bool
has_early All x = true
has_early (Among rs) x = is_loaded rs.items x

-- whether none is left out
abbrev pub has_all : EarlyBytes → Bool
has_all All = true
has_all (Among rs) = false

abbrev pub bytes_among : LateKinds → EarlySets → EarlyBytes
bytes_among l s = if l.loads then (if l.stores then s.after_both else s.after_load) else (if l.stores then s.after_store else All)

-- by what is late: where nothing is, all bytes
abbrev pub bytes_by : LateKinds → EarlyPoint → EarlyBytes
bytes_by l p = if l.owes then bytes_among l p.owing else bytes_among l p.paid

-- for some kind of what is late bytes are left out, whether the hart owes stores or not
abbrev pub LeavesSome : EarlySets → Type 0
LeavesSome s = (owes : Bool) → (l : LateKinds) × (l.owes ≡ owes) × (x : ℕ) × (has_early (bytes_among l s) x ≡ false)

abbrev pub point_at : List EarlyPoint → ℕ → Option EarlyPoint
point_at [] pc = None
point_at (p ∷ ps) pc = if p.pc == pc then Some p else point_at ps pc

abbrev pub constants_in : Option EarlyPoint → List (Option ℕ)
constants_in None = []
constants_in (Some p) = p.constants

abbrev pub bytes_in : LateKinds → Option EarlyPoint → ℕ → Bool
bytes_in l None x = true
bytes_in l (Some p) x = has_early (bytes_by l p) x

-- where there is no point, nothing is known
abbrev pub map_of : List EarlyPoint → EarlyMap
map_of ps = record { constants = λ pc. constants_in (point_at ps pc); bytes = λ l pc x. bytes_in l (point_at ps pc) x }

-- the map holds along a move from a point, for what is late
pub record HoldsFrom (ps : List EarlyPoint) (owns : ℕ → ℕ → Bool) (h : ℕ) (p : EarlyPoint) (l : LateKinds) (a : RunState) (v : Move) : Type 0 where
  pub constants : Agrees ((map_of ps).constants v.next) (set_view a.registers (answers_to v.instruction) v.result)
  pub reads : (x : ℕ) → loads v.access ≡ true → writing v.access ≡ false → is_private owns h v.access ≡ false → covers v.access x ≡ true →
      has_early (bytes_by l p) x ≡ true
  pub leads : (x : ℕ) → shuts l v.access ≡ false → (map_of ps).bytes (late_with owns h l v.access) v.next x ≡ true → has_early (bytes_by l p) x ≡ true

abbrev pub HoldsOrAll : List EarlyPoint → (ℕ → ℕ → Bool) → ℕ → EarlyPoint → LateKinds → RunState → Move → Type 0
HoldsOrAll ps owns h p l a v = ((x : ℕ) → has_early (bytes_by l p) x ≡ true) ⊎ HoldsFrom ps owns h p l a v

-- so along each move from it
abbrev pub IsRightAt : List EarlyPoint → (ℕ → ℕ → Bool) → Memory → ℕ → EarlyPoint → LateKinds → Type 0
IsRightAt ps owns image h p l =
    (m : List Stored) (opening : ℕ → ℕ) (a : RunState) (v : Move) → a.pc ≡ p.pc → decoded image a.pc ≡ Some v.instruction →
    ActsApart owns image h m opening (IsPlaced h m) a v → Agrees p.constants a.registers → HoldsOrAll ps owns h p l a v
