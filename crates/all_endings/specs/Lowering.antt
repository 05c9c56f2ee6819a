-- States with lower bounds: what a state can do, each lower one can.
use Rattle.std.specs.Prelude.{◌≡◌, ℕ, ◌<◌, ◌≤◌, Bool, true, false, List, length, Option, Some, None}
use Rattle.pages.specs.Memory.{Memory, in_range, width_bytes}
use Rattle.round_schedule.specs.declared.span.Span.{Span}
use Rattle.hart_step.specs.Registers.{reg}
use Rattle.rule_checker.specs.declared.annotated.KindBounds.{KindBounds}
use Rattle.rule_checker.specs.declared.carried.Carried.{Carried}
use Rattle.all_endings.specs.HartRuns.{Runs}
use Rattle.all_endings.specs.Offering.{Offers}
use Rattle.all_endings.specs.RunStates.{Move, OwnByte, RunState}
use Rattle.all_endings.specs.StoreLists.{Stored}

-- bounds at most those of another state: of rules 4 to 7
pub record KindsAtMost (a b : KindBounds) : Type 0 where
  pub loads : a.loads ≤ b.loads
  pub stores : a.stores ≤ b.stores
  pub acquires : a.acquires ≤ b.acquires
  pub annotated : a.annotated ≤ b.annotated
  pub load_load : a.load_load ≤ b.load_load
  pub load_store : a.load_store ≤ b.load_store
  pub store_load : a.store_load ≤ b.store_load
  pub store_store : a.store_store ≤ b.store_store

-- of rules 9 to 13
pub record CarriedAtMost (a b : Carried) : Type 0 where
  pub small : length a.registers ≡ 32
  pub size : length b.registers ≡ 32
  pub registers : (r : ℕ) → r < 32 → reg a.registers r ≤ reg b.registers r
  pub steered : a.steered ≤ b.steered
  pub addressed : a.addressed ≤ b.addressed

-- the same own store, whose address and data depend on nothing later (rule 12)
pub data OwnAtMost : Option OwnByte → Option OwnByte → Type 0 where
  own-none : OwnAtMost None None
  own-both : (o p : OwnByte) → o.place ≡ p.place → o.byte ≡ p.byte → o.atomic ≡ p.atomic → o.needs ≤ p.needs → OwnAtMost (Some o) (Some p)

-- the byte at an address is one of the reservation's
abbrev pub is_held : Option Span → ℕ → Bool
is_held None x = false
is_held (Some s) x = in_range s.address (width_bytes s.width) x

-- a state is lower than another: all its bounds are at most the other's, and what isn't a bound is the same. Of the sources those of the
-- reservation's bytes count
pub record IsLower (a b : RunState) : Type 0 where
  pub pc : a.pc ≡ b.pc
  pub registers : a.registers ≡ b.registers
  pub kinds : KindsAtMost a.kinds b.kinds
  pub carried : CarriedAtMost a.carried b.carried
  pub touched : (x : ℕ) → a.touched x ≤ b.touched x
  pub seen : (x : ℕ) → a.seen x ≤ b.seen x
  pub own : (x : ℕ) → OwnAtMost (a.own x) (b.own x)
  pub held : a.held ≡ b.held
  pub reserved : a.reserved ≤ b.reserved
  pub sources : (x : ℕ) → is_held b.held x ≡ true → b.sources x ≤ a.sources x
  pub output : a.output ≡ b.output

-- a run from a state is one from each lower one, to a lower one; and what is offered there is offered here
abbrev pub LowerStatesDoAsMuch : Type 0
LowerStatesDoAsMuch =
    (image : Memory) (h : ℕ) (m : List Stored) (opening : ℕ → ℕ) (a b : RunState) → IsLower a b →
    ((vs : List Move) (c : RunState) → Runs image h m opening b vs c → (d : RunState) × Runs image h m opening a vs d × IsLower d c) ×
    ((s : Stored) → Offers image h m opening b s → Offers image h m opening a s)
