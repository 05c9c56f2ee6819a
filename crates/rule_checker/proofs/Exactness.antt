-- Preserved program order with all the manual's rules, from the parts that the checker tests.
use Rattle.std.proofs.Common.{◌≡◌, ℕ, ◌<◌, ◌↔◌, ◌||◌, true, Bool, List, IsTrue, refl}
use Rattle.rv64_decode.specs.declared.instruction.Instr.{Instr}
use Rattle.round_schedule.specs.declared.access.Access.{Access}
use Rattle.round_schedule.specs.declared.access.Access.TheVariants.{Load, Store, LoadReserved, StoreConditional, Atomic, Fence}
use Rattle.round_schedule.specs.declared.event.Event.{Event}
use Rattle.round_schedule.specs.Accesses.{is_lr, is_sc, loads, stores}
use Rattle.round_schedule.specs.Positions.{event}
use Rattle.memory_order.specs.Operations.{is_operation, is_store}
use Rattle.memory_order.specs.Orders.{ListsOperations, order_position}
use Rattle.memory_order.specs.Rvwmo.{AtomicityAxiom, IsPaired, LoadValueAxiom, MeetsRvwmoBy, PreservedOrderBy, Rule, acquired, both-annotated, dependent, different-writes, fenced, overlapping-store, paired, released, returns-atomic}
use Rattle.memory_order.specs.Dependencies.{DependencyRule, RespectsAt}
use Rattle.rule_checker.specs.Bytes.{RespectsBytesAt, RuleByByte, byte-atomic, byte-different, byte-overlap}
use Rattle.rule_checker.specs.Kinds.{RespectsKindsAt, RuleByKind, kind-acquired, kind-annotated, kind-fenced, kind-released}
use Rattle.rule_checker.specs.Violations.{RespectsPairAt, PreservedAt}
use Rattle.rule_checker.proofs.Carrying.{rule_before}

kind_rule : (D : ℕ → ℕ → Type 0) (t : List Event) (pos : ℕ → ℕ) (a b : ℕ) → RuleByKind t a b → Rule D t pos a b
kind_rule D t pos a b (kind-fenced f af fb o) = fenced f af fb o
kind_rule D t pos a b (kind-acquired h) = acquired h
kind_rule D t pos a b (kind-released h) = released h
kind_rule D t pos a b (kind-annotated h k) = both-annotated h k

byte_rule : (D : ℕ → ℕ → Type 0) (t : List Event) (pos : ℕ → ℕ) (a b : ℕ) → RuleByByte t pos a b → Rule D t pos a b
byte_rule D t pos a b (byte-overlap x s ca cb) = overlapping-store x s ca cb
byte_rule D t pos a b (byte-different x s u ra rb none sa ub d) = different-writes x s u ra rb none sa ub d
byte_rule D t pos a b (byte-atomic x h rb s) = returns-atomic x h rb s

lr_is_operation : (e : Event) → is_lr e.access ≡ true → is_operation e ≡ true
lr_is_operation e h = of_access e.access h
  where
    of_access : (a : Access) → is_lr a ≡ true → (loads a || stores a) ≡ true
    of_access (Load w p x r) k = cc
    of_access (Store w p x v) k = cc
    of_access (LoadReserved w o p x r) k = refl
    of_access (StoreConditional w o p x v) k = cc
    of_access (Atomic w o p x r v) k = cc
    of_access (Fence b c m p) k = cc

sc_stores : (e : Event) → is_operation e ≡ true → is_sc e.access ≡ true → is_store e ≡ true
sc_stores e o h = of_access e.access o h
  where
    of_access : (a : Access) → (loads a || stores a) ≡ true → is_sc a ≡ true → stores a ≡ true
    of_access (Load w p x r) o k = cc
    of_access (Store w p x v) o k = cc
    of_access (LoadReserved w o p x r) n k = cc
    of_access (StoreConditional w o p x v) n k = n
    of_access (Atomic w o p x r v) n k = cc
    of_access (Fence b c m p) o k = cc

lr_operation : (t : List Event) (l c : ℕ) → IsPaired t l c → is_operation (event t l) ≡ true
lr_operation t l c p = lr_is_operation (event t l) p.reserved

pub preserved_by_parts : (is : List Instr) (t : List Event) (pos : ℕ → ℕ) (b : ℕ) → is_operation (event t b) ≡ true →
    (RespectsKindsAt t pos b × RespectsBytesAt t pos b) × (RespectsPairAt t pos b × RespectsAt is t pos b) → PreservedAt (DependencyRule is t pos) t pos b
preserved_by_parts is t pos b ob parts a oa before rule = by_rule rule
  where
    by_rule : Rule (DependencyRule is t pos) t pos a b → pos a < pos b
    by_rule (overlapping-store x s ca cb) = parts.0.1 a oa before (byte-overlap x s ca cb)
    by_rule (different-writes x s u ra rb none sa ub d) = parts.0.1 a oa before (byte-different x s u ra rb none sa ub d)
    by_rule (returns-atomic x h rb s) = parts.0.1 a oa before (byte-atomic x h rb s)
    by_rule (fenced f af fb o) = parts.0.0 a oa before (kind-fenced f af fb o)
    by_rule (acquired h) = parts.0.0 a oa before (kind-acquired h)
    by_rule (released h) = parts.0.0 a oa before (kind-released h)
    by_rule (both-annotated h k) = parts.0.0 a oa before (kind-annotated h k)
    by_rule (paired p) = parts.1.0 a p (sc_stores (event t b) ob p.conditional)
    by_rule (dependent d) = parts.1.1 a oa d

pub parts_of_preserved : (is : List Instr) (t : List Event) (pos : ℕ → ℕ) (b : ℕ) → is_operation (event t b) ≡ true →
    PreservedAt (DependencyRule is t pos) t pos b → (RespectsKindsAt t pos b × RespectsBytesAt t pos b) × (RespectsPairAt t pos b × RespectsAt is t pos b)
parts_of_preserved is t pos b ob respected = (
  (
    λ a oa before rule. respected a oa before (kind_rule (DependencyRule is t pos) t pos a b rule),
    λ a oa before rule. respected a oa before (byte_rule (DependencyRule is t pos) t pos a b rule),
  ),
  (
    λ l pair s. respected l (lr_operation t l b pair) pair.in_program (paired pair),
    λ a oa rule. respected a oa (rule_before is t pos a b rule) (dependent rule),
  ),
)

pub meets_all_whole : (D : (ℕ → ℕ) → ℕ → ℕ → Type 0) (t : List Event) (opening : ℕ → ℕ) (g : List ℕ) (b : Bool) → ListsOperations t g →
    (IsTrue b ↔ (PreservedOrderBy (D (order_position g)) t (order_position g) × LoadValueAxiom t opening (order_position g) × AtomicityAxiom t (order_position g))) → IsTrue b ↔ MeetsRvwmoBy D t opening g
meets_all_whole D t opening g b lists h =
    ((λ y. let a = h.0 y in record { lists = lists; load_value = a.1; atomicity = a.2; preserved = a.0 }), λ m. h.1 (m.preserved, m.load_value, m.atomicity))
