-- What is said of an access doesn't hang on its numbers: it is said of the bare one too.
use Rattle.std.proofs.Common.{◌≡◌, ℕ, ◌||◌, Bool, Option, Some, None, refl}
use Rattle.round_schedule.specs.declared.access.Access.{Access}
use Rattle.round_schedule.specs.declared.access.Access.TheVariants.{Load, Store, LoadReserved, StoreConditional, Atomic, Fence}
use Rattle.round_schedule.specs.declared.span.Span.{Span}
use Rattle.round_schedule.specs.Accesses.{address_of, bytes_of, is_lr, is_sc, loads, stores, writes}
use Rattle.round_schedule.specs.Held.{held_after_own}
use Rattle.memory_order.specs.declared.registers.Registers.{Registers}
use Rattle.memory_order.specs.Operations.{covers, is_amo}
use Rattle.rule_checker.specs.CarriedBounds.{AllowedBy, carried_after}
use Rattle.rule_checker.specs.Kinds.{AllowedByKind, kinds_after}
use Rattle.rule_checker.specs.declared.annotated.KindBounds.{KindBounds}
use Rattle.rule_checker.specs.declared.carried.Carried.{Carried}
use Rattle.execution.specs.Progressing.{step_event}
use Rattle.all_endings.specs.RunStates.{bare}

pub loads_bare : (a : Access) → loads (bare a) ≡ loads a
loads_bare (Load w p y r) = refl
loads_bare (Store w p y v) = refl
loads_bare (LoadReserved w o p y r) = refl
loads_bare (StoreConditional w o p y None) = refl
loads_bare (StoreConditional w o p y (Some v)) = refl
loads_bare (Atomic w o p y r v) = refl
loads_bare (Fence d e m p) = refl

pub stores_bare : (a : Access) → stores (bare a) ≡ stores a
stores_bare (Load w p y r) = refl
stores_bare (Store w p y v) = refl
stores_bare (LoadReserved w o p y r) = refl
stores_bare (StoreConditional w o p y None) = refl
stores_bare (StoreConditional w o p y (Some v)) = refl
stores_bare (Atomic w o p y r v) = refl
stores_bare (Fence d e m p) = refl

pub covers_bare : (a : Access) (x : ℕ) → covers (bare a) x ≡ covers a x
covers_bare (Load w p y r) x = refl
covers_bare (Store w p y v) x = refl
covers_bare (LoadReserved w o p y r) x = refl
covers_bare (StoreConditional w o p y None) x = refl
covers_bare (StoreConditional w o p y (Some v)) x = refl
covers_bare (Atomic w o p y r v) x = refl
covers_bare (Fence d e m p) x = refl

pub writes_bare : (a : Access) (x : ℕ) → writes (bare a) x ≡ writes a x
writes_bare (Load w p y r) x = refl
writes_bare (Store w p y v) x = refl
writes_bare (LoadReserved w o p y r) x = refl
writes_bare (StoreConditional w o p y None) x = refl
writes_bare (StoreConditional w o p y (Some v)) x = refl
writes_bare (Atomic w o p y r v) x = refl
writes_bare (Fence d e m p) x = refl

pub address_bare : (a : Access) → address_of (bare a) ≡ address_of a
address_bare (Load w p y r) = refl
address_bare (Store w p y v) = refl
address_bare (LoadReserved w o p y r) = refl
address_bare (StoreConditional w o p y None) = refl
address_bare (StoreConditional w o p y (Some v)) = refl
address_bare (Atomic w o p y r v) = refl
address_bare (Fence d e m p) = refl

pub bytes_bare : (a : Access) → bytes_of (bare a) ≡ bytes_of a
bytes_bare (Load w p y r) = refl
bytes_bare (Store w p y v) = refl
bytes_bare (LoadReserved w o p y r) = refl
bytes_bare (StoreConditional w o p y None) = refl
bytes_bare (StoreConditional w o p y (Some v)) = refl
bytes_bare (Atomic w o p y r v) = refl
bytes_bare (Fence d e m p) = refl

pub lr_bare : (a : Access) → is_lr (bare a) ≡ is_lr a
lr_bare (Load w p y r) = refl
lr_bare (Store w p y v) = refl
lr_bare (LoadReserved w o p y r) = refl
lr_bare (StoreConditional w o p y None) = refl
lr_bare (StoreConditional w o p y (Some v)) = refl
lr_bare (Atomic w o p y r v) = refl
lr_bare (Fence d e m p) = refl

pub atomic_bare : (a : Access) → (is_amo (bare a) || is_sc (bare a)) ≡ (is_amo a || is_sc a)
atomic_bare (Load w p y r) = refl
atomic_bare (Store w p y v) = refl
atomic_bare (LoadReserved w o p y r) = refl
atomic_bare (StoreConditional w o p y None) = refl
atomic_bare (StoreConditional w o p y (Some v)) = refl
atomic_bare (Atomic w o p y r v) = refl
atomic_bare (Fence d e m p) = refl

pub held_bare : (a : Access) (s : Option Span) → held_after_own (bare a) s ≡ held_after_own a s
held_bare (Load w p y r) s = refl
held_bare (Store w p y v) s = refl
held_bare (LoadReserved w o p y r) s = refl
held_bare (StoreConditional w o p y None) s = refl
held_bare (StoreConditional w o p y (Some v)) s = refl
held_bare (Atomic w o p y r v) s = refl
held_bare (Fence d e m p) s = refl

pub kinds_bare : (a : Access) (b : KindBounds) (o : Bool) (n : ℕ) → kinds_after b (bare a) o n ≡ kinds_after b a o n
kinds_bare (Load w p y r) b is n = refl
kinds_bare (Store w p y v) b is n = refl
kinds_bare (LoadReserved w o p y r) b is n = refl
kinds_bare (StoreConditional w o p y None) b is n = refl
kinds_bare (StoreConditional w o p y (Some v)) b is n = refl
kinds_bare (Atomic w o p y r v) b is n = refl
kinds_bare (Fence d e m p) b is n = refl

pub carried_bare : (a : Access) (c : Carried) (x : Registers) (h n : ℕ) → carried_after c x (step_event h (Some (bare a))) n ≡ carried_after c x (step_event h (Some a)) n
carried_bare (Load w p y r) c x h n = refl
carried_bare (Store w p y v) c x h n = refl
carried_bare (LoadReserved w o p y r) c x h n = refl
carried_bare (StoreConditional w o p y None) c x h n = refl
carried_bare (StoreConditional w o p y (Some v)) c x h n = refl
carried_bare (Atomic w o p y r v) c x h n = refl
carried_bare (Fence d e m p) c x h n = refl

pub kinds_allow_bare : (a : Access) (b : KindBounds) (p : ℕ) → AllowedByKind b a p → AllowedByKind b (bare a) p
kinds_allow_bare (Load w p y r) b k f = f
kinds_allow_bare (Store w p y v) b k f = f
kinds_allow_bare (LoadReserved w o p y r) b k f = f
kinds_allow_bare (StoreConditional w o p y None) b k f = f
kinds_allow_bare (StoreConditional w o p y (Some v)) b k f = f
kinds_allow_bare (Atomic w o p y r v) b k f = f
kinds_allow_bare (Fence d e m p) b k f = f

pub carried_allow_bare : (a : Access) (c : Carried) (x : Registers) (p : ℕ) → AllowedBy c x a p → AllowedBy c x (bare a) p
carried_allow_bare (Load w p y r) c x k f = f
carried_allow_bare (Store w p y v) c x k f = f
carried_allow_bare (LoadReserved w o p y r) c x k f = f
carried_allow_bare (StoreConditional w o p y None) c x k f = f
carried_allow_bare (StoreConditional w o p y (Some v)) c x k f = f
carried_allow_bare (Atomic w o p y r v) c x k f = f
carried_allow_bare (Fence d e m p) c x k f = f
