-- The first two operations that break a rule of preserved program order.
use Rattle.std.proofs.Common.{◌≡◌, ℕ, ◌+◌, List, Option, Some, None, MatchOption, true, refl, sym, subst, inl, inr, arith}
use Rattle.std.proofs.lemmas.Bool.{cases_eq, cases_lt}
use Rattle.rv64_decode.specs.declared.instruction.Instr.{Instr}
use Rattle.round_schedule.specs.declared.event.Event.{Event}
use Rattle.round_schedule.specs.Positions.{event}
use Rattle.memory_order.specs.Orders.{ListsOperations, order_position}
use Rattle.memory_order.specs.Operations.{is_operation}
use Rattle.memory_order.proofs.Sources.{one_position}
use Rattle.memory_order.specs.Dependencies.{DependencyRule}
use Rattle.rule_checker.specs.Violations.{IsFirstViolation, PreservedAt}
use Rattle.order_rules.specs.declared.rule.OrderRule.{OrderRule}
use Rattle.order_rules.specs.Orders.{IsFirstRule, NoneAsks, rule_of}
use Rattle.refusal_reasons.specs.Reasons.{IsBroken, IsFirstBroken, IsFirstBrokenAt, IsTurned, NoneBroken, NoneBrokenAt}
use Rattle.order_rules.proofs.Naming.{asked_by, ordered_by}

pub none_more : (is : List Instr) (t : List Event) (pos : ℕ → ℕ) (a b : ℕ) → NoneBrokenAt is t pos a b → ((rule : OrderRule) → IsBroken rule is t pos a b → ⊥) → NoneBrokenAt is t pos (a + 1) b
none_more is t pos a b old here rule c l = elim (cases_lt c a) [
  | inl low ↦ old rule c low
  | inr high ↦ let e : c ≡ a = omega (arith, l, high) in (λ k. here rule (subst (λ n. IsBroken rule is t pos n b) e k))
]

pub none_if_unasked : (is : List Instr) (t : List Event) (pos : ℕ → ℕ) (a b : ℕ) → NoneAsks is t pos a b → (rule : OrderRule) → IsBroken rule is t pos a b → ⊥
none_if_unasked is t pos a b none rule k = none rule (asked_by rule is t pos a b k.ordered)

-- of two operations that the order turns round, the first rule that orders them is the first that they break
pub broken_by_first : (is : List Instr) (t : List Event) (pos : ℕ → ℕ) (a b : ℕ) (o : Option OrderRule) → IsTurned t pos a b →
    MatchOption o (NoneAsks is t pos a b) (λ rule. IsFirstRule rule is t pos a b) →
    MatchOption o ((rule : OrderRule) → IsBroken rule is t pos a b → ⊥) (λ rule. IsTurned t pos a b × IsFirstRule rule is t pos a b)
broken_by_first is t pos a b None turned none = none_if_unasked is t pos a b none
broken_by_first is t pos a b (Some rule) turned first = (turned, first)

pub first_broken : (rule : OrderRule) (is : List Instr) (t : List Event) (pos : ℕ → ℕ) (a b : ℕ) → IsTurned t pos a b → IsFirstRule rule is t pos a b → NoneBrokenAt is t pos a b →
    IsFirstBrokenAt rule is t pos a b
first_broken rule is t pos a b turned first none = record {
  broken = record { first = turned.first; second = turned.second; before = turned.before; ordered = ordered_by rule is t pos a b first.asks; broken = turned.turned };
  none = none;
  least = λ k l o. first.least k l (asked_by k is t pos a b o);
}

-- what preserved program order keeps is broken by none
pub none_if_preserved : (is : List Instr) (t : List Event) (pos : ℕ → ℕ) (a b : ℕ) (rule : OrderRule) → PreservedAt (DependencyRule is t pos) t pos b → IsBroken rule is t pos a b → ⊥
none_if_preserved is t pos a b rule kept h =
    let l = kept a h.first h.before h.ordered.0 in
    omega (arith, l, h.broken)

-- the first of all second indexes
pub first_of_all : (rule : OrderRule) (is : List Instr) (t : List Event) (pos : ℕ → ℕ) (a b second : ℕ) → b ≡ second → IsFirstBrokenAt rule is t pos a second →
    IsFirstViolation t (PreservedAt (DependencyRule is t pos) t pos) second → IsFirstBroken rule is t pos a b
first_of_all rule is t pos a b second at first violation =
    subst (λ n. IsFirstBroken rule is t pos a n) (sym at) (record { broken = first.broken; none = before; least = first.least })
  where
    before : NoneBroken is t pos a second
    before k c d o = elim o [
      | inl l ↦ λ h. none_if_preserved is t pos c d k (violation.respected d l h.second) h
      | inr e ↦ λ h. first.none k c e.1 (subst (λ n. IsBroken k is t pos c n) e.0 h)
    ]

-- what is broken by none is kept
pub unbroken : (is : List Instr) (t : List Event) (g : List ℕ) (b : ℕ) → ListsOperations t g → is_operation (event t b) ≡ true → NoneBrokenAt is t (order_position g) b b →
    PreservedAt (DependencyRule is t (order_position g)) t (order_position g) b
unbroken is t g b lists ob none a oa before r = elim (cases_lt (order_position g a) (order_position g b)) [
  | inl l ↦ l
  | inr n ↦ elim (cases_eq (order_position g a) (order_position g b)) [
    | inl same ↦ absurd (let e = one_position t g a b lists oa ob same in let l = before.earlier in omega (arith, e, l))
    | inr other ↦ absurd (
        none (rule_of is t (order_position g) a b r) a before.earlier
        (record { first = oa; second = ob; before = before; ordered = (r, refl); broken = omega (arith, n, other) }))
  ]
]
