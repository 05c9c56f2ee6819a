-- The rules of preserved program order by their numbers.
use Rattle.std.specs.Prelude.{ℕ}
use Rattle.order_rules.specs.declared.rule.OrderRule.{OrderRule}
use Rattle.order_rules.specs.declared.rule.OrderRule.TheVariants.{OverlappingStore, DifferentWrites, ReturnsAtomic, Fenced, Acquired, Released, BothAnnotated, Paired, ByAddress, ByData, ByControl, ByForwarding, ByAddressBetween}

-- the number of a rule in the manual's section 14.1.3
abbrev pub number_of : OrderRule → ℕ
number_of OverlappingStore = 1
number_of DifferentWrites = 2
number_of ReturnsAtomic = 3
number_of Fenced = 4
number_of Acquired = 5
number_of Released = 6
number_of BothAnnotated = 7
number_of Paired = 8
number_of ByAddress = 9
number_of ByData = 10
number_of ByControl = 11
number_of ByForwarding = 12
number_of ByAddressBetween = 13
