-- The first operation that something doesn't hold of, from the tests along the trace.
use Rattle.std.proofs.Common.{◌≡◌, ℕ, ◌<◌, min, List, Option, Some, None, MatchOption, true, arith, subst, inl, inr}
use Rattle.std.proofs.lemmas.Bool.{cases_Bool, cases_lt}
use Rattle.rv64_decode.specs.declared.instruction.Instr.{Instr}
use Rattle.round_schedule.specs.declared.event.Event.{Event}
use Rattle.round_schedule.specs.Positions.{event}
use Rattle.memory_order.specs.Operations.{is_operation}
use Rattle.memory_order.specs.Rvwmo.{PreservedOrderBy}
use Rattle.memory_order.proofs.Facts.{store_is_operation}
use Rattle.memory_order.specs.Dependencies.{DependencyRule, RespectsAt}
use Rattle.rule_checker.specs.Bytes.{RespectsBytesAt}
use Rattle.rule_checker.specs.Kinds.{RespectsKindsAt}
use Rattle.rule_checker.specs.Violations.{IsFirstViolation, RespectsAll, RespectsPairAt, PreservedAt, earliest}
use Rattle.rule_checker.proofs.Exactness.{preserved_by_parts, parts_of_preserved}

-- where a test fails
pub first_at : (t : List Event) (P : ℕ → Type 0) (i : ℕ) → ((a : ℕ) → a < i → is_operation (event t a) ≡ true → P a) → ((is_operation (event t i) ≡ true → P i) → ⊥) →
    IsFirstViolation t P i
first_at t P i before broken = record {
  operation = elim (cases_Bool (is_operation (event t i))) [
    | inl e ↦ e
    | inr e ↦ absurd (broken (λ op. cc))
  ];
  respected = before;
  violated = λ p. broken (λ op. p);
}

-- an SC that is no operation is kept behind its LR
pub not_idle_pair : (t : List Event) (pos : ℕ → ℕ) (c : ℕ) → (is_operation (event t c) ≡ true → RespectsPairAt t pos c) → RespectsPairAt t pos c
not_idle_pair t pos c respected l pair s = respected (store_is_operation (event t c) s) l pair s

-- what holds of no operation before the first of two indexes, and of one of them
pub first_of_both : (t : List Event) (P Q : ℕ → Type 0) (a b : Option ℕ) → MatchOption a (RespectsAll t P) (IsFirstViolation t P) → MatchOption b (RespectsAll t Q) (IsFirstViolation t Q) →
    MatchOption (earliest a b) (RespectsAll t (λ n. P n × Q n)) (IsFirstViolation t (λ n. P n × Q n))
first_of_both t P Q None None p q = λ n o. (p n o, q n o)
first_of_both t P Q None (Some b) p q = record {
  operation = q.operation;
  respected = λ n l o. (p n o, q.respected n l o);
  violated = λ h. q.violated h.1;
}
first_of_both t P Q (Some a) None p q = record {
  operation = p.operation;
  respected = λ n l o. (p.respected n l o, q n o);
  violated = λ h. p.violated h.0;
}
first_of_both t P Q (Some a) (Some b) p q = elim (cases_lt a b) [
  | inl low ↦
      let e : a ≡ min a b = omega (arith, low) in
      subst (IsFirstViolation t (λ n. P n × Q n)) e (record {
        operation = p.operation;
        respected = λ n l o. (p.respected n l o, q.respected n (omega (arith, l, low)) o);
        violated = λ h. p.violated h.0;
      })
  | inr high ↦
      let e : b ≡ min a b = omega (arith, high) in
      subst (IsFirstViolation t (λ n. P n × Q n)) e (record {
        operation = q.operation;
        respected = λ n l o. (p.respected n (omega (arith, l, high)) o, q.respected n l o);
        violated = λ h. q.violated h.1;
      })
]

-- the same of what is alike
pub first_alike : (t : List Event) (P Q : ℕ → Type 0) (o : Option ℕ) → ((n : ℕ) → is_operation (event t n) ≡ true → P n → Q n) → ((n : ℕ) → is_operation (event t n) ≡ true → Q n → P n) →
    MatchOption o (RespectsAll t P) (IsFirstViolation t P) → MatchOption o (RespectsAll t Q) (IsFirstViolation t Q)
first_alike t P Q None to from p = λ n o. to n o (p n o)
first_alike t P Q (Some a) to from p = record {
  operation = p.operation;
  respected = λ n l o. to n o (p.respected n l o);
  violated = λ h. p.violated (from a p.operation h);
}

pub preserved_by_firsts : (is : List Instr) (t : List Event) (pos : ℕ → ℕ) (o : Option ℕ) →
    MatchOption o (RespectsAll t (PreservedAt (DependencyRule is t pos) t pos)) (IsFirstViolation t (PreservedAt (DependencyRule is t pos) t pos)) →
    MatchOption o (PreservedOrderBy (DependencyRule is t pos) t pos) (IsFirstViolation t (PreservedAt (DependencyRule is t pos) t pos))
preserved_by_firsts is t pos None respected = λ a b oa ob before rule. respected b ob a oa before rule
preserved_by_firsts is t pos (Some b) first = first

pub first_of_parts : (is : List Instr) (t : List Event) (pos : ℕ → ℕ) (kind byte pair dependency : Option ℕ) →
    MatchOption kind (RespectsAll t (RespectsKindsAt t pos)) (IsFirstViolation t (RespectsKindsAt t pos)) →
    MatchOption byte (RespectsAll t (RespectsBytesAt t pos)) (IsFirstViolation t (RespectsBytesAt t pos)) →
    MatchOption pair (RespectsAll t (RespectsPairAt t pos)) (IsFirstViolation t (RespectsPairAt t pos)) →
    MatchOption dependency (RespectsAll t (RespectsAt is t pos)) (IsFirstViolation t (RespectsAt is t pos)) →
    MatchOption (earliest (earliest kind byte) (earliest pair dependency)) (PreservedOrderBy (DependencyRule is t pos) t pos)
    (IsFirstViolation t (PreservedAt (DependencyRule is t pos) t pos))
first_of_parts is t pos kind byte pair dependency k b p d =
    let alone = first_of_both t (RespectsKindsAt t pos) (RespectsBytesAt t pos) kind byte k b in
    let others = first_of_both t (RespectsPairAt t pos) (RespectsAt is t pos) pair dependency p d in
    let all = first_of_both t (λ n. RespectsKindsAt t pos n × RespectsBytesAt t pos n) (λ n. RespectsPairAt t pos n × RespectsAt is t pos n) (earliest kind byte) (earliest pair dependency) alone others in
    preserved_by_firsts is t pos (earliest (earliest kind byte) (earliest pair dependency))
    (first_alike t (λ n. (RespectsKindsAt t pos n × RespectsBytesAt t pos n) × (RespectsPairAt t pos n × RespectsAt is t pos n)) (PreservedAt (DependencyRule is t pos) t pos)
    (earliest (earliest kind byte) (earliest pair dependency)) (preserved_by_parts is t pos) (parts_of_preserved is t pos) all)
