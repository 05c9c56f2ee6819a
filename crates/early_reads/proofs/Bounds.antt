-- The bounds that a move leaves to loads.
use Rattle.std.proofs.Common.{◌≡◌, ℕ, ◌+◌, ◌≤◌, ◌&&◌, ◌||◌, not, max, min, Bool, true, false, if◌then◌else◌, List, length, refl, sym, ap, ◌∙◌, subst, inl, inr, arith}
use Rattle.std.proofs.lemmas.Bool.{and_parts}
use Rattle.round_schedule.specs.declared.access.Access.{Access}
use Rattle.round_schedule.specs.declared.access.Access.TheVariants.{Load, Store, LoadReserved, StoreConditional, Atomic, Fence}
use Rattle.round_schedule.specs.Accesses.{loads}
use Rattle.round_schedule.specs.Accesses.{stores as writing}
use Rattle.memory_order.specs.CheckingProgram.{orders_loads}
use Rattle.memory_order.specs.Operations.{covers, is_acquire}
use Rattle.memory_order.proofs.Facts.{or_cases}
use Rattle.rule_checker.specs.Kinds.{kinds_after, loads_loads}
use Rattle.rule_checker.specs.declared.annotated.KindBounds.{KindBounds}
use Rattle.all_endings.specs.Locality.{set_view}
use Rattle.all_endings.specs.RunStates.{Move, RunState, answers_to, behind, moved, operates}
use Rattle.all_endings.specs.StoreLists.{Stored, later}
use Rattle.private_bytes.specs.Owners.{is_private}
use Rattle.private_bytes.specs.PrivateMoves.{moved_privately}
use Rattle.early_reads.specs.declared.early_point.LateKinds.{LateKinds}
use Rattle.early_reads.specs.Windows.{DidLate, late_of, late_with, left_by_move, loads_from, shuts}

abbrev pub from : KindBounds → ℕ
from k = max k.acquires (max k.load_load k.store_load)

no_less : (c : Bool) (u t : ℕ) → u ≤ (if c then max u t else u)
no_less true u t = omega arith
no_less false u t = omega arith

at_least : (c : Bool) (u t b : ℕ) → c ≡ true → b ≤ t → b ≤ (if c then max u t else u)
at_least true u t b e l = omega (arith, l)
at_least false u t b e l = absurd (cc)

-- what a move of an instruction leaves, where this is the time behind it
pub record IsLeft (a : RunState) (v : Move) (t : ℕ) (d : RunState) : Type 0 where
  pub pc : d.pc ≡ v.next
  pub registers : d.registers ≡ set_view a.registers (answers_to v.instruction) v.result
  pub kinds : d.kinds ≡ kinds_after a.kinds v.access (operates v) t
  pub seen : (x : ℕ) → a.seen x ≤ d.seen x

abbrev pub time_behind : List Stored → Move → Bool → ℕ
time_behind m v private = if private then min v.time (later m) else behind m v

pub left_so : (owns : ℕ → ℕ → Bool) (h : ℕ) (m : List Stored) (a : RunState) (v : Move) → IsLeft a v (time_behind m v (is_private owns h v.access)) (left_by_move owns h m a v)
left_so owns h m a v = by_owner (is_private owns h v.access)
  where
    by_owner : (c : Bool) → IsLeft a v (time_behind m v c) (if c then moved_privately h m a v else moved h m a v)
    by_owner true = record { pc = refl; registers = refl; kinds = refl; seen = λ x. no_less (loads v.access && covers v.access x) (a.seen x) (v.source x) }
    by_owner false = record { pc = refl; registers = refl; kinds = refl; seen = λ x. no_less (loads v.access && covers v.access x) (a.seen x) (v.source x) }

-- the time behind a late operation to nobody's own bytes
pub behind_late : (m : List Stored) (v : Move) (c : Bool) (b : ℕ) → c ≡ false → b ≤ length m → b ≤ v.time → b ≤ time_behind m v c
behind_late m v true b e l t = absurd (cc)
behind_late m v false b e l t = by_kind (writing v.access)
  where
    by_kind : (w : Bool) → b ≤ min (if w then v.time + 1 else v.time) (later m)
    by_kind true = omega (arith, l, t)
    by_kind false = omega (arith, l, t)

from_rises : (k : KindBounds) (y : Access) (o : Bool) (t : ℕ) → from k ≤ from (kinds_after k y o t)
from_rises k y o t =
    let p = no_less (o && is_acquire y) k.acquires t in
    let q = no_less (loads_loads y) k.load_load k.loads in
    let r = no_less (orders_loads y) k.store_load k.stores in
    omega (arith, p, q, r)

pub rises : {a d : RunState} {v : Move} {t : ℕ} → IsLeft a v t d → loads_from a ≤ loads_from d
rises {a} {d} {v} {t} i = subst (λ (k : KindBounds). from a.kinds ≤ from k) (sym i.kinds) (from_rises a.kinds v.access (operates v) t)

-- ---- what shuts

no_fence_loads : (y : Access) → loads_loads y ≡ true → loads y ≡ false
no_fence_loads (Load w p x r) e = absurd (cc)
no_fence_loads (Store w p x r) e = absurd (cc)
no_fence_loads (LoadReserved w o p x r) e = absurd (cc)
no_fence_loads (StoreConditional w o p x r) e = absurd (cc)
no_fence_loads (Atomic w o p x r u) e = absurd (cc)
no_fence_loads (Fence c d m p) e = refl

no_fence_stores : (y : Access) → orders_loads y ≡ true → writing y ≡ false
no_fence_stores (Load w p x r) e = absurd (cc)
no_fence_stores (Store w p x r) e = absurd (cc)
no_fence_stores (LoadReserved w o p x r) e = absurd (cc)
no_fence_stores (StoreConditional w o p x r) e = absurd (cc)
no_fence_stores (Atomic w o p x r u) e = absurd (cc)
no_fence_stores (Fence c d m p) e = refl

operating : (y : Access) → writing y ≡ true → (loads y || writing y) ≡ true
operating y e = by_kind (loads y)
  where
    by_kind : (c : Bool) → (c || writing y) ≡ true
    by_kind true = refl
    by_kind false = e

not_false : (c : Bool) → not c ≡ true → c ≡ false
not_false true e = absurd (cc)
not_false false e = refl

acquired : (k : KindBounds) (y : Access) (t b : ℕ) → writing y ≡ true → is_acquire y ≡ true → b ≤ t → b ≤ from (kinds_after k y (loads y || writing y) t)
acquired k y t b wet acquire l =
    let o = operating y wet in
    let both : ((loads y || writing y) && is_acquire y) ≡ true = ap (λ (c : Bool). c && is_acquire y) o ∙ acquire in
    let p = at_least ((loads y || writing y) && is_acquire y) k.acquires t b both l in
    omega (arith, p)

shut_so : (b : ℕ) (l : LateKinds) (k : KindBounds) (y : Access) (t : ℕ) → (l.loads ≡ true → b ≤ k.loads) → (l.stores ≡ true → b ≤ k.stores) →
    (l.owes ≡ false → writing y ≡ true → is_acquire y ≡ true → b ≤ t) → shuts l y ≡ true → b ≤ from (kinds_after k y (loads y || writing y) t)
shut_so b l k y t did_load did_store late e = elim (or_cases (l.loads && loads_loads y) ((l.stores && orders_loads y) || (not l.owes && (writing y && is_acquire y))) e) [
  | inl first ↦
      let both = and_parts l.loads (loads_loads y) first in
      let p = at_least (loads_loads y) k.load_load k.loads b both.1 (did_load both.0) in
      omega (arith, p)
  | inr rest ↦ elim (or_cases (l.stores && orders_loads y) (not l.owes && (writing y && is_acquire y)) rest) [
    | inl second ↦
        let both = and_parts l.stores (orders_loads y) second in
        let p = at_least (orders_loads y) k.store_load k.stores b both.1 (did_store both.0) in
        omega (arith, p)
    | inr third ↦
        let paid = and_parts (not l.owes) (writing y && is_acquire y) third in
        let both = and_parts (writing y) (is_acquire y) paid.1 in
        acquired k y t b both.0 both.1 (late (not_false l.owes paid.0) both.0 both.1)
  ]
]

pub shut : (b : ℕ) (l : LateKinds) {a d : RunState} {v : Move} {t : ℕ} → DidLate b l a → IsLeft a v t d → (l.owes ≡ false → writing v.access ≡ true → is_acquire v.access ≡ true → b ≤ t) →
    shuts l v.access ≡ true → b ≤ loads_from d
shut b l {a} {d} {v} {t} did i late e = subst (λ (k : KindBounds). b ≤ from k) (sym i.kinds) (shut_so b l a.kinds v.access t did.loads did.stores late e)

-- a late operation shuts as an acquire alone
pub shut_first : (b : ℕ) (owes : Bool) {a d : RunState} {v : Move} {t : ℕ} → IsLeft a v t d → b ≤ t → shuts (late_of owes v.access) v.access ≡ true → b ≤ loads_from d
shut_first b owes {a} {d} {v} {t} i l e =
    subst (λ (k : KindBounds). b ≤ from k) (sym i.kinds) (
    elim (or_cases (loads v.access && loads_loads v.access) ((writing v.access && orders_loads v.access) || (not owes && (writing v.access && is_acquire v.access))) e) [
      | inl first ↦ let both = and_parts (loads v.access) (loads_loads v.access) first in let none = no_fence_loads v.access both.1 in absurd (cc)
      | inr rest ↦ elim (or_cases (writing v.access && orders_loads v.access) (not owes && (writing v.access && is_acquire v.access)) rest) [
        | inl second ↦ let both = and_parts (writing v.access) (orders_loads v.access) second in let none = no_fence_stores v.access both.1 in absurd (cc)
        | inr third ↦
            let paid = and_parts (not owes) (writing v.access && is_acquire v.access) third in
            let both = and_parts (writing v.access) (is_acquire v.access) paid.1 in
            acquired a.kinds v.access t b both.0 both.1 l
      ]
    ]
    )

-- ---- what is late

did_by : (b : ℕ) (l : LateKinds) (k j : KindBounds) (a d : RunState) → d.kinds ≡ j → (l.loads ≡ true → b ≤ j.loads) → (l.stores ≡ true → b ≤ j.stores) → DidLate b l d
did_by b l k j a d e loads_late stores_late = record {
  loads = λ on. subst (λ (k : KindBounds). b ≤ k.loads) (sym e) (loads_late on);
  stores = λ on. subst (λ (k : KindBounds). b ≤ k.stores) (sym e) (stores_late on);
}

-- behind a late operation
pub did_first : (b : ℕ) (owes : Bool) {a d : RunState} {v : Move} {t : ℕ} → IsLeft a v t d → b ≤ t → DidLate b (late_of owes v.access) d
did_first b owes {a} {d} {v} {t} i l =
    did_by b (late_of owes v.access) a.kinds (kinds_after a.kinds v.access (operates v) t) a d i.kinds
    (λ on. at_least (loads v.access) a.kinds.loads t b on l) (λ on. at_least (writing v.access) a.kinds.stores t b on l)

did_more : (b : ℕ) (owns : ℕ → ℕ → Bool) (h : ℕ) (l : LateKinds) (k : KindBounds) (y : Access) (t : ℕ) (c : Bool) → (c ≡ true → (writing y ≡ true) × (b ≤ t)) →
    (l.loads ≡ true → b ≤ k.loads) → (l.stores ≡ true → b ≤ k.stores) →
    let more : LateKinds = (if c then record { loads = l.loads || loads y; stores = true; owes = l.owes } else l) in
    let j = kinds_after k y (loads y || writing y) t in
    (more.loads ≡ true → b ≤ j.loads) × (more.stores ≡ true → b ≤ j.stores)
did_more b owns h l k y t true late did_load did_store = (
  λ on. elim (or_cases l.loads (loads y) on) [
    | inl before ↦ let p = did_load before in let q = no_less (loads y) k.loads t in omega (arith, p, q)
    | inr here ↦ at_least (loads y) k.loads t b here (late refl).1
  ],
  λ on. at_least (writing y) k.stores t b (late refl).0 (late refl).1,
)
did_more b owns h l k y t false late did_load did_store = (
  λ on. (let p = did_load on in let q = no_less (loads y) k.loads t in omega (arith, p, q)),
  λ on. (let p = did_store on in let q = no_less (writing y) k.stores t in omega (arith, p, q)),
)

-- and behind one more move
pub did_on : (b : ℕ) (owns : ℕ → ℕ → Bool) (h : ℕ) (l : LateKinds) {a d : RunState} {v : Move} {t : ℕ} → DidLate b l a → IsLeft a v t d →
    (l.owes ≡ false → writing v.access ≡ true → is_private owns h v.access ≡ false → b ≤ t) → DidLate b (late_with owns h l v.access) d
did_on b owns h l {a} {d} {v} {t} did i late =
    let both = did_more b owns h l a.kinds v.access t (not l.owes && (writing v.access && not (is_private owns h v.access)))
    (λ e.
    let paid = and_parts (not l.owes) (writing v.access && not (is_private owns h v.access)) e in
    let parts = and_parts (writing v.access) (not (is_private owns h v.access)) paid.1 in
    (parts.0, late (not_false l.owes paid.0) parts.0 (not_false (is_private owns h v.access) parts.1)))
    did.loads did.stores in
    did_by b (late_with owns h l v.access) a.kinds (kinds_after a.kinds v.access (operates v) t) a d i.kinds both.0 both.1
