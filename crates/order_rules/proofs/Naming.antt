-- What a rule asks is that it orders, and the other way round.
use Rattle.std.proofs.Common.{◌≡◌, ℕ, ◌-◌, ◌+◌, ◌<◌, ◌≤◌, zero, suc, List, [], ◌∷◌, get_or, refl, subst, arith}
use Rattle.rv64_decode.specs.declared.instruction.Instr.{Instr}
use Rattle.round_schedule.specs.declared.event.Event.{Event}
use Rattle.memory_order.specs.Rvwmo.{Rule, acquired, both-annotated, dependent, different-writes, fenced, overlapping-store, paired, released, returns-atomic}
use Rattle.memory_order.specs.Dependencies.{DependencyRule, by-address, by-address-between, by-control, by-data, by-forwarding}
use Rattle.order_rules.specs.declared.rule.OrderRule.{OrderRule}
use Rattle.order_rules.specs.declared.rule.OrderRule.TheVariants.{OverlappingStore, DifferentWrites, ReturnsAtomic, Fenced, Acquired, Released, BothAnnotated, Paired, ByAddress, ByData, ByControl, ByForwarding, ByAddressBetween}
use Rattle.order_rules.specs.Orders.{Asks, IsOrderedBy, dependency_rule, rule_of}
use Rattle.order_rules.specs.Rules.{number_of}

pub ordered_by : (k : OrderRule) (is : List Instr) (t : List Event) (pos : ℕ → ℕ) (a b : ℕ) → Asks k is t pos a b → IsOrderedBy k is t pos a b
ordered_by OverlappingStore is t pos a b p = (overlapping-store p.1.0 p.0 p.1.1 p.1.2, refl)
ordered_by DifferentWrites is t pos a b p = (different-writes p.0 p.1.0 p.1.1 p.1.2 p.1.3 p.1.4 p.1.5 p.1.6 p.1.7, refl)
ordered_by ReturnsAtomic is t pos a b p = (returns-atomic p.1.0 p.0 p.1.1.0 p.1.1.1, refl)
ordered_by Fenced is t pos a b p = (fenced p.0 p.1.0 p.1.1 p.1.2, refl)
ordered_by Acquired is t pos a b p = (acquired p, refl)
ordered_by Released is t pos a b p = (released p, refl)
ordered_by BothAnnotated is t pos a b p = (both-annotated p.0 p.1, refl)
ordered_by Paired is t pos a b p = (paired p, refl)
ordered_by ByAddress is t pos a b p = (dependent (by-address p), refl)
ordered_by ByData is t pos a b p = (dependent (by-data p.0 p.1), refl)
ordered_by ByControl is t pos a b p = (dependent (by-control p.0 p.1), refl)
ordered_by ByForwarding is t pos a b p = (dependent (by-forwarding p.1.0 p.0 p.1.1 p.1.2 p.1.3 p.1.4), refl)
ordered_by ByAddressBetween is t pos a b p = (dependent (by-address-between p.1.0 p.0 p.1.1 p.1.2), refl)

dependency_asks : (is : List Instr) (t : List Event) (pos : ℕ → ℕ) (a b : ℕ) (d : DependencyRule is t pos a b) → Asks (dependency_rule is t pos a b d) is t pos a b
dependency_asks is t pos a b (by-address d) = d
dependency_asks is t pos a b (by-data s d) = (s, d)
dependency_asks is t pos a b (by-control s d) = (s, d)
dependency_asks is t pos a b (by-forwarding m x before d r s) = (x, (m, before, d, r, s))
dependency_asks is t pos a b (by-address-between m s before d) = (s, (m, before, d))

rule_asks : (is : List Instr) (t : List Event) (pos : ℕ → ℕ) (a b : ℕ) (r : Rule (DependencyRule is t pos) t pos a b) → Asks (rule_of is t pos a b r) is t pos a b
rule_asks is t pos a b (overlapping-store x s ca cb) = (s, (x, ca, cb))
rule_asks is t pos a b (different-writes x s u ra rb none sa sb d) = (x, (s, u, ra, rb, none, sa, sb, d))
rule_asks is t pos a b (returns-atomic x h rb s) = (h, (x, (rb, s)))
rule_asks is t pos a b (fenced f af fb o) = (f, (af, fb, o))
rule_asks is t pos a b (acquired h) = h
rule_asks is t pos a b (released h) = h
rule_asks is t pos a b (both-annotated ha hb) = (ha, hb)
rule_asks is t pos a b (paired p) = p
rule_asks is t pos a b (dependent d) = dependency_asks is t pos a b d

pub asked_by : (k : OrderRule) (is : List Instr) (t : List Event) (pos : ℕ → ℕ) (a b : ℕ) → IsOrderedBy k is t pos a b → Asks k is t pos a b
asked_by k is t pos a b o = subst (λ j. Asks j is t pos a b) o.1 (rule_asks is t pos a b o.0)

-- ---- the list of all rules

-- the rules in the manual's order
abbrev pub rules : List OrderRule
rules = OverlappingStore ∷ DifferentWrites ∷ ReturnsAtomic ∷ Fenced ∷ Acquired ∷ Released ∷ BothAnnotated ∷ Paired ∷ ByAddress ∷ ByData ∷ ByControl ∷ ByForwarding ∷ ByAddressBetween ∷ []

pub at_most_thirteen : (k : OrderRule) → number_of k ≤ 13
at_most_thirteen OverlappingStore = omega arith
at_most_thirteen DifferentWrites = omega arith
at_most_thirteen ReturnsAtomic = omega arith
at_most_thirteen Fenced = omega arith
at_most_thirteen Acquired = omega arith
at_most_thirteen Released = omega arith
at_most_thirteen BothAnnotated = omega arith
at_most_thirteen Paired = omega arith
at_most_thirteen ByAddress = omega arith
at_most_thirteen ByData = omega arith
at_most_thirteen ByControl = omega arith
at_most_thirteen ByForwarding = omega arith
at_most_thirteen ByAddressBetween = omega arith

pub number_at : (i : ℕ) (d : OrderRule) → i < 13 → number_of (get_or rules i d) ≡ i + 1
number_at zero d l = refl
number_at (suc zero) d l = refl
number_at (suc (suc zero)) d l = refl
number_at (suc (suc (suc zero))) d l = refl
number_at (suc (suc (suc (suc zero)))) d l = refl
number_at (suc (suc (suc (suc (suc zero))))) d l = refl
number_at (suc (suc (suc (suc (suc (suc zero)))))) d l = refl
number_at (suc (suc (suc (suc (suc (suc (suc zero))))))) d l = refl
number_at (suc (suc (suc (suc (suc (suc (suc (suc zero)))))))) d l = refl
number_at (suc (suc (suc (suc (suc (suc (suc (suc (suc zero))))))))) d l = refl
number_at (suc (suc (suc (suc (suc (suc (suc (suc (suc (suc zero)))))))))) d l = refl
number_at (suc (suc (suc (suc (suc (suc (suc (suc (suc (suc (suc zero))))))))))) d l = refl
number_at (suc (suc (suc (suc (suc (suc (suc (suc (suc (suc (suc (suc zero)))))))))))) d l = refl
number_at (suc (suc (suc (suc (suc (suc (suc (suc (suc (suc (suc (suc (suc n))))))))))))) d l = absurd (omega (arith, l))
