-- Preserved program order by the bytes of operations: the rules 1 to 3, as the checker takes them.
use Rattle.std.specs.Prelude.{◌≡◌, ◌≢◌, ℕ, ◌-◌, ◌<◌, ◌≤◌, ◌⊎◌, ◌||◌, true, List, Option, Some, slice_index}
use Rattle.round_schedule.specs.declared.event.Event.{Event}
use Rattle.round_schedule.specs.Accesses.{is_sc}
use Rattle.round_schedule.specs.Positions.{ProgramBefore, event, reads_at, writes_at}
use Rattle.memory_order.specs.Operations.{covers, is_amo, is_operation, is_plain_store, is_store}
use Rattle.memory_order.specs.Rvwmo.{IsSource}

pub data RuleByByte (t : List Event) (pos : ℕ → ℕ) (a b : ℕ) : Type 0 where
  byte-overlap : (x : ℕ) → is_store (event t b) ≡ true → covers (event t a).access x ≡ true → covers (event t b).access x ≡ true → RuleByByte t pos a b
  byte-different : (x : ℕ) (s u : Option ℕ) → reads_at t a x ≡ true → reads_at t b x ≡ true →
      ((k : ℕ) → a < k → k < b → (event t k).hart ≡ (event t b).hart → writes_at t k x ≡ true → ⊥) →
      IsSource t pos a x s → IsSource t pos b x u → s ≢ u → RuleByByte t pos a b
  byte-atomic : (x : ℕ) → (is_amo (event t a).access || is_sc (event t a).access) ≡ true → reads_at t b x ≡ true →
      IsSource t pos b x (Some a) → RuleByByte t pos a b

abbrev pub RespectsBytesAt : List Event → (ℕ → ℕ) → ℕ → Type 0
RespectsBytesAt t pos b = (a : ℕ) → is_operation (event t a) ≡ true → ProgramBefore t a b → RuleByByte t pos a b → pos a < pos b

abbrev pub RespectsBytes : List Event → (ℕ → ℕ) → Type 0
RespectsBytes t pos = (b : ℕ) → is_operation (event t b) ≡ true → RespectsBytesAt t pos b

-- a byte may be from the store before position s of the order, where its load stands at p: an SC or AMO is not read ahead (rule 3)
abbrev pub IsForwarded : List Event → List ℕ → ℕ → ℕ → Type 0
IsForwarded t g p s = (s ≤ p) ⊎ (is_plain_store (event t (slice_index g (s - 1))).access ≡ true)

-- and it is from no earlier store than what the hart's loads before it have seen (rule 2)
abbrev pub MayLoadByte : List Event → List ℕ → ℕ → ℕ → ℕ → Type 0
MayLoadByte t g seen p s = (seen ≤ s) × IsForwarded t g p s

abbrev pub MayLoad : List Event → List ℕ → (ℕ → ℕ) → (ℕ → ℕ) → ℕ → ℕ → Type 0
MayLoad t g seen sources b p = (x : ℕ) → reads_at t b x ≡ true → MayLoadByte t g (seen x) p (sources x)
