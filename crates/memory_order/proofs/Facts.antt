-- What each kind of access is: facts by cases.
use Rattle.std.proofs.Common.{◌≡◌, ℕ, ◌<◌, ◌≤◌, ◌&&◌, ◌||◌, ◌⊎◌, Bool, true, false, List, length, refl, ap, ◌∙◌, inl, inr, arith}
use Rattle.std.proofs.lemmas.Bool.{cases_lt}
use Rattle.rv64_decode.specs.declared.ordering.FenceMode.TheVariants.{Normal, Tso}
use Rattle.round_schedule.specs.declared.access.Access.{Access}
use Rattle.round_schedule.specs.declared.access.Access.TheVariants.{Load, Store, LoadReserved, StoreConditional, Atomic, Fence}
use Rattle.round_schedule.specs.declared.event.Event.{Event}
use Rattle.round_schedule.specs.Accesses.{is_lr, is_sc, loads, must_be_serial, stores}
use Rattle.round_schedule.specs.Positions.{event, no_event}
use Rattle.round_schedule.proofs.Folds.{event_past}
use Rattle.memory_order.specs.Operations.{fence_orders, is_acquire, is_amo, is_load, is_operation, is_plain_store, is_release, is_store}
use Rattle.memory_order.specs.ProgramOrder.{is_plain_load}
use Rattle.memory_order.specs.RoundOrder.{rank}

-- a store is a plain one, or has to be serial
pub store_cases : (a : Access) → stores a ≡ true → (is_plain_store a ≡ true) ⊎ (must_be_serial a ≡ true)
store_cases (Load w p x r) h = cc
store_cases (Store w p x v) h = inl refl
store_cases (LoadReserved w o p x r) h = cc
store_cases (StoreConditional w o p x v) h = inr refl
store_cases (Atomic w o p x r v) h = inr refl
store_cases (Fence b c m p) h = cc

-- a load is a plain one, or has to be serial
pub load_cases : (a : Access) → loads a ≡ true → (is_plain_load a ≡ true) ⊎ (must_be_serial a ≡ true)
load_cases (Load w p x r) h = inl refl
load_cases (Store w p x v) h = cc
load_cases (LoadReserved w o p x r) h = inr refl
load_cases (StoreConditional w o p x v) h = cc
load_cases (Atomic w o p x r v) h = inr refl
load_cases (Fence b c m p) h = cc

-- what loads is no plain store
pub load_is_other : (a : Access) → loads a ≡ true → is_plain_store a ≡ false
load_is_other (Load w p x r) h = refl
load_is_other (Store w p x v) h = cc
load_is_other (LoadReserved w o p x r) h = refl
load_is_other (StoreConditional w o p x v) h = refl
load_is_other (Atomic w o p x r v) h = refl
load_is_other (Fence b c m p) h = refl

-- a plain store does not load
pub store_does_not_load : (a : Access) → is_plain_store a ≡ true → loads a ≡ false
store_does_not_load (Load w p x r) h = cc
store_does_not_load (Store w p x v) h = refl
store_does_not_load (LoadReserved w o p x r) h = cc
store_does_not_load (StoreConditional w o p x v) h = refl
store_does_not_load (Atomic w o p x r v) h = cc
store_does_not_load (Fence b c m p) h = refl

-- an acquire is no plain store
pub acquire_is_other : (a : Access) → is_acquire a ≡ true → is_plain_store a ≡ false
acquire_is_other (Load w p x r) h = refl
acquire_is_other (Store w p x v) h = cc
acquire_is_other (LoadReserved w o p x r) h = refl
acquire_is_other (StoreConditional w o p x v) h = refl
acquire_is_other (Atomic w o p x r v) h = refl
acquire_is_other (Fence b c m p) h = refl

-- a release has to be serial
pub release_is_serial : (a : Access) → is_release a ≡ true → must_be_serial a ≡ true
release_is_serial (Load w p x r) h = cc
release_is_serial (Store w p x v) h = cc
release_is_serial (LoadReserved w o p x r) h = refl
release_is_serial (StoreConditional w o p x v) h = refl
release_is_serial (Atomic w o p x r v) h = refl
release_is_serial (Fence b c m p) h = cc

-- what has to be serial is no plain store
pub serial_is_other : (a : Access) → must_be_serial a ≡ true → is_plain_store a ≡ false
serial_is_other (Load w p x r) h = refl
serial_is_other (Store w p x v) h = cc
serial_is_other (LoadReserved w o p x r) h = refl
serial_is_other (StoreConditional w o p x v) h = refl
serial_is_other (Atomic w o p x r v) h = refl
serial_is_other (Fence b c m p) h = refl

-- an LR has to be serial
pub lr_is_serial : (a : Access) → is_lr a ≡ true → must_be_serial a ≡ true
lr_is_serial (Load w p x r) h = cc
lr_is_serial (Store w p x v) h = cc
lr_is_serial (LoadReserved w o p x r) h = refl
lr_is_serial (StoreConditional w o p x v) h = cc
lr_is_serial (Atomic w o p x r v) h = cc
lr_is_serial (Fence b c m p) h = cc

-- so have an AMO and an SC
pub atomic_is_serial : (a : Access) → (is_amo a || is_sc a) ≡ true → must_be_serial a ≡ true
atomic_is_serial (Load w p x r) h = cc
atomic_is_serial (Store w p x v) h = cc
atomic_is_serial (LoadReserved w o p x r) h = cc
atomic_is_serial (StoreConditional w o p x v) h = refl
atomic_is_serial (Atomic w o p x r v) h = refl
atomic_is_serial (Fence b c m p) h = cc

-- a fence that orders what does not load before what does not store has to be serial
pub fence_is_serial : (f a b : Access) → fence_orders f a b ≡ true → loads a ≡ false → stores b ≡ false → must_be_serial f ≡ true
fence_is_serial (Load w p x r) a b h l s = cc
fence_is_serial (Store w p x v) a b h l s = cc
fence_is_serial (LoadReserved w o p x r) a b h l s = cc
fence_is_serial (StoreConditional w o p x v) a b h l s = cc
fence_is_serial (Atomic w o p x r v) a b h l s = cc
fence_is_serial (Fence c d Normal p) a b h l s = normal c.reads c.writes d.reads d.writes (loads a) (stores a) (loads b) (stores b) h l s
  where
    normal : (br bw ar aw la sa lb sb : Bool) →
        ((br && la && ar && lb) || (br && la && aw && sb) || (bw && sa && aw && sb) || (bw && sa && ar && lb && true)) ≡ true → la ≡ false → sb ≡ false → (bw && ar) ≡ true
    normal br bw ar aw la sa lb sb h l s = grind arith
fence_is_serial (Fence c d Tso p) a b h l s = absurd (tso c.reads c.writes d.reads d.writes (loads a) (stores a) (loads b) (stores b) h l s)
  where
    tso : (br bw ar aw la sa lb sb : Bool) →
        ((br && la && ar && lb) || (br && la && aw && sb) || (bw && sa && aw && sb) || (bw && sa && ar && lb && false)) ≡ true → la ≡ false → sb ≡ false → ⊥
    tso br bw ar aw la sa lb sb h l s = grind arith

pub and_left : (a b : Bool) → (a && b) ≡ true → a ≡ true
and_left true b h = refl
and_left false b h = h

pub and_right : (a b : Bool) → (a && b) ≡ true → b ≡ true
and_right true b h = h
and_right false b h = cc

pub or_cases : (a b : Bool) → (a || b) ≡ true → (a ≡ true) ⊎ (b ≡ true)
or_cases true b h = inl refl
or_cases false b h = inr h

pub or_left : (a b : Bool) → a ≡ true → (a || b) ≡ true
or_left a b h = rw h refl

pub or_right : (a b : Bool) → b ≡ true → (a || b) ≡ true
or_right true b h = refl
or_right false b h = h

pub store_is_operation : (e : Event) → is_store e ≡ true → is_operation e ≡ true
store_is_operation e h = or_right (is_load e) (is_store e) h

pub load_is_operation : (e : Event) → is_load e ≡ true → is_operation e ≡ true
load_is_operation e h = or_left (is_load e) (is_store e) h

-- no memory operation stands past the end of a trace
no_operation : is_operation no_event ≡ false
unfolding no_event
no_operation = refl

pub none_past : (t : List Event) (i : ℕ) → length t ≤ i → is_operation (event t i) ≡ false
none_past t i h = ap is_operation (event_past t i h) ∙ no_operation

pub within : (t : List Event) (i : ℕ) → is_operation (event t i) ≡ true → i < length t
within t i h = elim (cases_lt i (length t)) [
  | inl l ↦ l
  | inr g ↦ let e = none_past t i g in cc
]

rank_of_none : rank no_event ≡ 0
unfolding no_event
rank_of_none = refl

-- past the end of a trace the rank is 0
pub rank_past : (t : List Event) (i : ℕ) → length t ≤ i → rank (event t i) ≡ 0
rank_past t i h = ap rank (event_past t i h) ∙ rank_of_none
