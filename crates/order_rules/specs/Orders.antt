-- What each rule of preserved program order asks of two operations of a hart, the first at a and the second at b.
use Rattle.std.specs.Prelude.{◌≡◌, ◌≢◌, ℕ, ◌<◌, ◌⊎◌, ◌||◌, Bool, true, List, Option, Some, All}
use Rattle.rv64_decode.specs.declared.instruction.Instr.{Instr}
use Rattle.round_schedule.specs.declared.access.Access.{Access}
use Rattle.round_schedule.specs.declared.event.Event.{Event}
use Rattle.round_schedule.specs.Accesses.{is_sc}
use Rattle.round_schedule.specs.Positions.{ProgramBefore, event, reads_at, writes_at}
use Rattle.trace.specs.Traced.{HasForm}
use Rattle.memory_order.specs.Orders.{ListsOperations, order_position}
use Rattle.memory_order.specs.Checking.{AreSources, IsRanking}
use Rattle.memory_order.specs.Operations.{covers, fence_orders, is_acquire, is_amo, is_release, is_store}
use Rattle.memory_order.specs.Rvwmo.{IsPaired, IsSource, MaySee, Rule, acquired, both-annotated, dependent, different-writes, fenced, overlapping-store, paired, released, returns-atomic}
use Rattle.memory_order.specs.Dependencies.{AddressDependency, ControlDependency, DataDependency, DependencyRule, by-address, by-address-between, by-control, by-data, by-forwarding}
use Rattle.order_rules.specs.declared.rule.OrderRule.{OrderRule}
use Rattle.order_rules.specs.Rules.{number_of}
use Rattle.order_rules.specs.declared.rule.OrderRule.TheVariants.{OverlappingStore, DifferentWrites, ReturnsAtomic, Fenced, Acquired, Released, BothAnnotated, Paired, ByAddress, ByData, ByControl, ByForwarding, ByAddressBetween}

-- events of which an order lists each memory operation once, and where each stands in it
pub record AreRanked (t : List Event) (g ranks : List ℕ) : Type 0 where
  pub formed : All HasForm t
  pub lists : ListsOperations t g
  pub ranked : IsRanking t g ranks

-- a list has the bounds of the sources of loads
abbrev pub HasSources : List Event → List ℕ → List (List ℕ) → Type 0
HasSources t g s = AreSources t g (MaySee t (order_position g)) s

-- which rule orders two operations
abbrev pub dependency_rule : (is : List Instr) (t : List Event) (pos : ℕ → ℕ) (a b : ℕ) → DependencyRule is t pos a b → OrderRule
dependency_rule is t pos a b (by-address d) = ByAddress
dependency_rule is t pos a b (by-data s d) = ByData
dependency_rule is t pos a b (by-control s d) = ByControl
dependency_rule is t pos a b (by-forwarding m x before d r s) = ByForwarding
dependency_rule is t pos a b (by-address-between m s before d) = ByAddressBetween

abbrev pub rule_of : (is : List Instr) (t : List Event) (pos : ℕ → ℕ) (a b : ℕ) → Rule (DependencyRule is t pos) t pos a b → OrderRule
rule_of is t pos a b (overlapping-store x s ca cb) = OverlappingStore
rule_of is t pos a b (different-writes x s u ra rb none sa sb d) = DifferentWrites
rule_of is t pos a b (returns-atomic x h rb s) = ReturnsAtomic
rule_of is t pos a b (fenced f af fb o) = Fenced
rule_of is t pos a b (acquired h) = Acquired
rule_of is t pos a b (released h) = Released
rule_of is t pos a b (both-annotated ha hb) = BothAnnotated
rule_of is t pos a b (paired p) = Paired
rule_of is t pos a b (dependent d) = dependency_rule is t pos a b d

-- the rule of this name orders a before b
abbrev pub IsOrderedBy : OrderRule → List Instr → List Event → (ℕ → ℕ) → ℕ → ℕ → Type 0
IsOrderedBy k is t pos a b = (r : Rule (DependencyRule is t pos) t pos a b) × (rule_of is t pos a b r ≡ k)

-- ---- the same, as it is looked for

abbrev pub Overlaps : Access → Access → Type 0
Overlaps a b = (x : ℕ) × (covers a x ≡ true) × (covers b x ≡ true)

-- no store of b's hart to byte x between them
abbrev pub NoStoreBetween : List Event → ℕ → ℕ → ℕ → Type 0
NoStoreBetween t a b x = (k : ℕ) → a < k → k < b → (event t k).hart ≡ (event t b).hart → writes_at t k x ≡ true → ⊥

-- the loads at a and b have byte x from different stores, and no store of their hart lies between
abbrev pub DiffersAt : List Event → (ℕ → ℕ) → ℕ → ℕ → ℕ → Type 0
DiffersAt t pos a b x =
    (s : Option ℕ) × (u : Option ℕ) × (reads_at t a x ≡ true) × (reads_at t b x ≡ true) × NoStoreBetween t a b x ×
    IsSource t pos a x s × IsSource t pos b x u × (s ≢ u)

abbrev pub Differs : List Event → (ℕ → ℕ) → ℕ → ℕ → Type 0
Differs t pos a b = (x : ℕ) × DiffersAt t pos a b x

-- byte x of the load at b is from the store at m
abbrev pub IsFrom : List Event → (ℕ → ℕ) → ℕ → ℕ → ℕ → Type 0
IsFrom t pos b m x = (reads_at t b x ≡ true) × IsSource t pos b x (Some m)

abbrev pub Returns : List Event → (ℕ → ℕ) → ℕ → ℕ → Type 0
Returns t pos a b = (x : ℕ) × IsFrom t pos b a x

abbrev pub FencedBy : List Event → ℕ → ℕ → ℕ → Type 0
FencedBy t a b f = ProgramBefore t a f × ProgramBefore t f b × (fence_orders (event t f).access (event t a).access (event t b).access ≡ true)

abbrev pub IsFenced : List Event → ℕ → ℕ → Type 0
IsFenced t a b = (f : ℕ) × FencedBy t a b f

-- the event at m is of b's hart and before it, and its address or data depends on a
abbrev pub DependsBefore : List Instr → List Event → ℕ → ℕ → ℕ → Type 0
DependsBefore is t a m b = ProgramBefore t m b × (AddressDependency is t a m ⊎ DataDependency is t a m)

-- byte x of the load at b is from a store of its hart before it whose address or data depends on a
abbrev pub ForwardsAt : List Instr → List Event → (ℕ → ℕ) → ℕ → ℕ → ℕ → Type 0
ForwardsAt is t pos a b x =
    (m : ℕ) × ProgramBefore t m b × (AddressDependency is t a m ⊎ DataDependency is t a m) × (reads_at t b x ≡ true) × IsSource t pos b x (Some m)

abbrev pub Forwards : List Instr → List Event → (ℕ → ℕ) → ℕ → ℕ → Type 0
Forwards is t pos a b = (x : ℕ) × ForwardsAt is t pos a b x

abbrev pub AddressedBetween : List Instr → List Event → ℕ → ℕ → Type 0
AddressedBetween is t a b = (m : ℕ) × ProgramBefore t m b × AddressDependency is t a m

abbrev pub is_annotated : Access → Bool
is_annotated a = is_acquire a || is_release a

abbrev pub Asks : OrderRule → List Instr → List Event → (ℕ → ℕ) → ℕ → ℕ → Type 0
Asks OverlappingStore is t pos a b = (is_store (event t b) ≡ true) × Overlaps (event t a).access (event t b).access
Asks DifferentWrites is t pos a b = Differs t pos a b
Asks ReturnsAtomic is t pos a b = ((is_amo (event t a).access || is_sc (event t a).access) ≡ true) × Returns t pos a b
Asks Fenced is t pos a b = IsFenced t a b
Asks Acquired is t pos a b = is_acquire (event t a).access ≡ true
Asks Released is t pos a b = is_release (event t b).access ≡ true
Asks BothAnnotated is t pos a b = (is_annotated (event t a).access ≡ true) × (is_annotated (event t b).access ≡ true)
Asks Paired is t pos a b = IsPaired t a b
Asks ByAddress is t pos a b = AddressDependency is t a b
Asks ByData is t pos a b = (is_store (event t b) ≡ true) × DataDependency is t a b
Asks ByControl is t pos a b = (is_store (event t b) ≡ true) × ControlDependency is t a b
Asks ByForwarding is t pos a b = Forwards is t pos a b
Asks ByAddressBetween is t pos a b = (is_store (event t b) ≡ true) × AddressedBetween is t a b

abbrev pub NoneAsks : List Instr → List Event → (ℕ → ℕ) → ℕ → ℕ → Type 0
NoneAsks is t pos a b = (k : OrderRule) → Asks k is t pos a b → ⊥

-- the first rule that orders a before b
pub record IsFirstRule (rule : OrderRule) (is : List Instr) (t : List Event) (pos : ℕ → ℕ) (a b : ℕ) : Type 0 where
  pub asks : Asks rule is t pos a b
  pub least : (k : OrderRule) → number_of k < number_of rule → Asks k is t pos a b → ⊥
