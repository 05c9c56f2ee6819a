-- Why RVWMO refuses an order of the memory operations of what was done.
use Rattle.std.specs.Prelude.{◌≡◌, ◌≢◌, ℕ, ◌<◌, ◌⊎◌, true, false, List, length, slice_index, Option, MatchOption, Contains}
use Rattle.rv64_decode.specs.declared.instruction.Instr.{Instr}
use Rattle.round_schedule.specs.declared.event.Event.{Event}
use Rattle.round_schedule.specs.Accesses.{byte_read}
use Rattle.round_schedule.specs.Positions.{ProgramBefore, event, reads_at, source_byte, writes_at}
use Rattle.memory_order.specs.Operations.{is_operation, is_store}
use Rattle.memory_order.specs.Orders.{order_position}
use Rattle.memory_order.specs.Rvwmo.{IsPaired, IsSource, IsUndisturbed}
use Rattle.order_rules.specs.declared.rule.OrderRule.{OrderRule}
use Rattle.refusal_reasons.specs.declared.refusal.Refusal.{Refusal}
use Rattle.refusal_reasons.specs.declared.refusal.Refusal.TheVariants.{LeftOut, NoOperation, NotAtomic, OutOfOrder, Twice, WrongByte}
use Rattle.order_rules.specs.Orders.{IsOrderedBy}
use Rattle.order_rules.specs.Rules.{number_of}

-- an index stands in an order at two positions
abbrev pub IsTwice : List ℕ → ℕ → Type 0
IsTwice g a = (i : ℕ) × (j : ℕ) × (i < j) × (j < length g) × (slice_index g i ≡ a) × (slice_index g j ≡ a)

-- a rule orders the operation at a before that at b, of one hart, and the order has b first
pub record IsBroken (rule : OrderRule) (is : List Instr) (t : List Event) (pos : ℕ → ℕ) (a b : ℕ) : Type 0 where
  pub first : is_operation (event t a) ≡ true
  pub second : is_operation (event t b) ≡ true
  pub before : ProgramBefore t a b
  pub ordered : IsOrderedBy rule is t pos a b
  pub broken : pos b < pos a

-- no rule is broken by two indexes of which the second is lower than b, nor by ones with b as the second and a lower first than a
abbrev pub NoneBroken : List Instr → List Event → (ℕ → ℕ) → ℕ → ℕ → Type 0
NoneBroken is t pos a b = (rule : OrderRule) (c d : ℕ) → (d < b) ⊎ ((d ≡ b) × (c < a)) → IsBroken rule is t pos c d → ⊥

-- the first two indexes that break a rule, and the first rule that they break
pub record IsFirstBroken (rule : OrderRule) (is : List Instr) (t : List Event) (pos : ℕ → ℕ) (a b : ℕ) : Type 0 where
  pub broken : IsBroken rule is t pos a b
  pub none : NoneBroken is t pos a b
  pub least : (k : OrderRule) → number_of k < number_of rule → IsOrderedBy k is t pos a b → ⊥

-- byte x of the load at r isn't that of its source
abbrev pub IsWrong : List Event → (ℕ → ℕ) → (ℕ → ℕ) → ℕ → ℕ → Type 0
IsWrong t opening pos r x =
    (s : Option ℕ) × (reads_at t r x ≡ true) × IsSource t pos r x s × (byte_read (event t r).access x ≢ source_byte t opening x s)

-- the LR at l is paired with the SC at c, which succeeded, and another hart stores between to a byte that the LR read
abbrev pub IsTorn : List Event → (ℕ → ℕ) → ℕ → ℕ → Type 0
IsTorn t pos l c =
    (x : ℕ) × (s : Option ℕ) × IsPaired t l c × (is_store (event t c) ≡ true) × (reads_at t l x ≡ true) × IsSource t pos l x s × (IsUndisturbed t pos c x s → ⊥)

-- a refusal tells what is so
abbrev pub IsTrueOf : Refusal → List Instr → List Event → (ℕ → ℕ) → List ℕ → Type 0
IsTrueOf (NoOperation p) is t opening g = (p < length g) × (is_operation (event t (slice_index g p)) ≡ false)
IsTrueOf (Twice a) is t opening g = IsTwice g a
IsTrueOf (LeftOut a) is t opening g = (is_operation (event t a) ≡ true) × (Contains g a → ⊥)
IsTrueOf (OutOfOrder rule a b) is t opening g = IsFirstBroken rule is t (order_position g) a b
IsTrueOf (WrongByte r x) is t opening g = IsWrong t opening (order_position g) r x
IsTrueOf (NotAtomic l c) is t opening g = IsTorn t (order_position g) l c

-- ---- as it is looked for

-- no rule is broken by an index and b, and by one below a and b
abbrev pub NoneBrokenAt : List Instr → List Event → (ℕ → ℕ) → ℕ → ℕ → Type 0
NoneBrokenAt is t pos a b = (rule : OrderRule) (c : ℕ) → c < a → IsBroken rule is t pos c b → ⊥

pub record IsFirstBrokenAt (rule : OrderRule) (is : List Instr) (t : List Event) (pos : ℕ → ℕ) (a b : ℕ) : Type 0 where
  pub broken : IsBroken rule is t pos a b
  pub none : NoneBrokenAt is t pos a b
  pub least : (k : OrderRule) → number_of k < number_of rule → IsOrderedBy k is t pos a b → ⊥

-- byte x of the load at r is that of its source
abbrev pub IsRight : List Event → (ℕ → ℕ) → (ℕ → ℕ) → ℕ → ℕ → Type 0
IsRight t opening pos r x = (s : Option ℕ) × IsSource t pos r x s × (byte_read (event t r).access x ≡ source_byte t opening x s)

-- between the LR at l and the SC at c no other hart stores to a byte that the LR read
abbrev pub AreUndisturbed : List Event → (ℕ → ℕ) → ℕ → ℕ → Type 0
AreUndisturbed t pos l c = (x : ℕ) (s : Option ℕ) → reads_at t l x ≡ true → IsSource t pos l x s → IsUndisturbed t pos c x s

-- memory operations of one hart, of which the order has the second first
pub record IsTurned (t : List Event) (pos : ℕ → ℕ) (a b : ℕ) : Type 0 where
  pub first : is_operation (event t a) ≡ true
  pub second : is_operation (event t b) ≡ true
  pub before : ProgramBefore t a b
  pub turned : pos b < pos a

abbrev pub IsRightLoad : List Event → (ℕ → ℕ) → (ℕ → ℕ) → ℕ → Type 0
IsRightLoad t opening pos r = (x : ℕ) → reads_at t r x ≡ true → IsRight t opening pos r x

abbrev pub AtomicFor : List Event → (ℕ → ℕ) → ℕ → Type 0
AtomicFor t pos c = (l : ℕ) → IsPaired t l c → is_store (event t c) ≡ true → AreUndisturbed t pos l c

-- another hart's store to byte x that lies in the order between the source s and the SC at c
pub record LiesBetween (t : List Event) (pos : ℕ → ℕ) (c x : ℕ) (s : Option ℕ) (v : ℕ) : Type 0 where
  pub writes : writes_at t v x ≡ true
  pub other : (event t v).hart ≢ (event t c).hart
  pub before : pos v < pos c
  pub after : MatchOption s (Unit {0}) (λ n. pos n < pos v)
