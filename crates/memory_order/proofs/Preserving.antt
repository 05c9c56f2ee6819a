-- The rules of preserved program order, collapsed to those that the checker tests.
use Rattle.std.proofs.Common.{◌≡◌, ℕ, ◌<◌, ◌⊎◌, true, false, List, inl, inr}
use Rattle.std.proofs.lemmas.Bool.{and_from, and_parts, cases_Bool}
use Rattle.round_schedule.specs.declared.event.Event.{Event}
use Rattle.round_schedule.specs.Accesses.{loads, stores}
use Rattle.round_schedule.specs.Positions.{event}
use Rattle.memory_order.specs.Operations.{covers, is_acquire, is_plain_store, is_release}
use Rattle.memory_order.specs.Rvwmo.{NotPlainStore, PreservedOrder, Rule, acquired, both-annotated, dependent, different-writes, fenced, overlapping-store, paired, released, returns-atomic}
use Rattle.memory_order.proofs.Facts.{acquire_is_other, atomic_is_serial, load_is_other, lr_is_serial, or_cases, release_is_serial, serial_is_other}
use Rattle.memory_order.proofs.Sources.{store_at}
use Rattle.memory_order.specs.CheckingProgram.{RespectsButOverlap, RespectsOverlap, RuleButOverlap, by-fence, by-other, by-release}
use Rattle.memory_order.proofs.ProgramBounds.{plain_kinds}

rule_from_but : (t : List Event) (pos : ℕ → ℕ) (a b : ℕ) → RuleButOverlap t a b → Rule (NotPlainStore t) t pos a b
rule_from_but t pos a b (by-other n) = dependent n
rule_from_but t pos a b (by-fence f af fb o) = fenced f af fb o
rule_from_but t pos a b (by-release r) = released r

pub but_overlap_respected : (t : List Event) (pos : ℕ → ℕ) → PreservedOrder t pos → RespectsButOverlap t pos
but_overlap_respected t pos p b ob a oa before rule = p a b oa ob before (rule_from_but t pos a b rule)

pub overlap_respected : (t : List Event) (pos : ℕ → ℕ) → PreservedOrder t pos → RespectsOverlap t pos
overlap_respected t pos p a b x before wa wb =
    p a b (store_at t a x wa) (store_at t b x wb) before
    (overlapping-store x (and_parts (stores (event t b).access) (covers (event t b).access x) wb).0 (and_parts (stores (event t a).access) (covers (event t a).access x) wa).1
    (and_parts (stores (event t b).access) (covers (event t b).access x) wb).1)

pub preserved_from : (t : List Event) (pos : ℕ → ℕ) → RespectsButOverlap t pos → RespectsOverlap t pos → PreservedOrder t pos
preserved_from t pos respected overlap a b oa ob before rule = by_rule rule
  where
    other : is_plain_store (event t a).access ≡ false → pos a < pos b
    other n = respected b ob a oa before (by-other n)

    annotated : (is_acquire (event t a).access ≡ true) ⊎ (is_release (event t a).access ≡ true) → pos a < pos b
    annotated (inl h) = other (acquire_is_other (event t a).access h)
    annotated (inr h) = other (serial_is_other (event t a).access (release_is_serial (event t a).access h))

    by_rule : Rule (NotPlainStore t) t pos a b → pos a < pos b
    by_rule (overlapping-store x sb ca cb) = elim (cases_Bool (is_plain_store (event t a).access)) [
      | inl h ↦ overlap a b x before
          (and_from (stores (event t a).access) (covers (event t a).access x) (plain_kinds (event t a).access h).1 ca)
          (and_from (stores (event t b).access) (covers (event t b).access x) sb cb)
      | inr n ↦ other n
    ]
    by_rule (different-writes x s u ra rb none sa ub d) = other (load_is_other (event t a).access (and_parts (loads (event t a).access) (covers (event t a).access x) ra).0)
    by_rule (returns-atomic x k rb s) = other (serial_is_other (event t a).access (atomic_is_serial (event t a).access k))
    by_rule (fenced f af fb o) = respected b ob a oa before (by-fence f af fb o)
    by_rule (acquired h) = annotated (inl h)
    by_rule (released h) = respected b ob a oa before (by-release h)
    by_rule (both-annotated h k) = annotated (or_cases (is_acquire (event t a).access) (is_release (event t a).access) h)
    by_rule (paired p) = other (serial_is_other (event t a).access (lr_is_serial (event t a).access p.reserved))
    by_rule (dependent n) = other n
