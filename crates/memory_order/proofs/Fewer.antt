-- An order that meets RVWMO with some dependencies meets it with fewer of them.
use Rattle.std.specs.Prelude.{ℕ, List}
use Rattle.round_schedule.specs.declared.event.Event.{Event}
use Rattle.memory_order.specs.Orders.{order_position}
use Rattle.memory_order.specs.Rvwmo.{MeetsRvwmoBy, Rule, acquired, both-annotated, dependent, different-writes, fenced, overlapping-store, paired, released, returns-atomic}

rule_of_more : (D E : ℕ → ℕ → Type 0) (t : List Event) (pos : ℕ → ℕ) (a b : ℕ) → (D a b → E a b) → Rule D t pos a b → Rule E t pos a b
rule_of_more D E t pos a b more (overlapping-store x s ca cb) = overlapping-store x s ca cb
rule_of_more D E t pos a b more (different-writes x s u ra rb none sa sb d) = different-writes x s u ra rb none sa sb d
rule_of_more D E t pos a b more (returns-atomic x h rb s) = returns-atomic x h rb s
rule_of_more D E t pos a b more (fenced f af fb o) = fenced f af fb o
rule_of_more D E t pos a b more (acquired h) = acquired h
rule_of_more D E t pos a b more (released h) = released h
rule_of_more D E t pos a b more (both-annotated ha hb) = both-annotated ha hb
rule_of_more D E t pos a b more (paired p) = paired p
rule_of_more D E t pos a b more (dependent d) = dependent (more d)

pub fewer_are_met : (D E : (ℕ → ℕ) → ℕ → ℕ → Type 0) (t : List Event) (opening : ℕ → ℕ) (g : List ℕ) →
    ((a b : ℕ) → D (order_position g) a b → E (order_position g) a b) → MeetsRvwmoBy E t opening g → MeetsRvwmoBy D t opening g
fewer_are_met D E t opening g more m = record {
  lists = m.lists;
  load_value = m.load_value;
  atomicity = m.atomicity;
  preserved = λ a b oa ob before rule. m.preserved a b oa ob before (rule_of_more (D (order_position g)) (E (order_position g)) t (order_position g) a b (more a b) rule);
}
