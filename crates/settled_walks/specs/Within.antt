-- States all of whose times are at most a number: all that comes next hangs on nothing behind it.
use Rattle.std.specs.Prelude.{ℕ, ◌<◌, ◌≤◌, List, option_map}
use Rattle.hart_step.specs.Registers.{reg}
use Rattle.rule_checker.specs.declared.annotated.KindBounds.{KindBounds}
use Rattle.rule_checker.specs.declared.carried.Carried.{Carried}
use Rattle.run_bounds.specs.declared.touched.TouchedByte.{TouchedByte}
use Rattle.run_bounds.specs.Touched.{known_at}
use Rattle.all_endings.specs.RunStates.{RunState}
use Rattle.hart_states.specs.States.{own_of}
use Rattle.private_bytes.specs.PrivateMoves.{needs_of}

pub record AreKindsWithin (n : ℕ) (k : KindBounds) : Type 0 where
  pub loads : k.loads ≤ n
  pub stores : k.stores ≤ n
  pub acquires : k.acquires ≤ n
  pub annotated : k.annotated ≤ n
  pub load_load : k.load_load ≤ n
  pub load_store : k.load_store ≤ n
  pub store_load : k.store_load ≤ n
  pub store_store : k.store_store ≤ n

pub record IsCarriedWithin (n : ℕ) (c : Carried) : Type 0 where
  pub registers : (r : ℕ) → r < 32 → reg c.registers r ≤ n
  pub steered : c.steered ≤ n
  pub addressed : c.addressed ≤ n

pub record IsWithin (n : ℕ) (a : RunState) : Type 0 where
  pub kinds : AreKindsWithin n a.kinds
  pub carried : IsCarriedWithin n a.carried
  pub touched : (x : ℕ) → a.touched x ≤ n
  pub needs : (x : ℕ) → needs_of (a.own x) ≤ n

-- of what is kept of one byte
pub record IsByteWithin (n : ℕ) (b : TouchedByte) : Type 0 where
  pub touched : b.touched ≤ n
  pub needs : needs_of (option_map own_of b.own) ≤ n

abbrev pub AreBytesWithin : ℕ → List TouchedByte → Type 0
AreBytesWithin n bs = (x : ℕ) → IsByteWithin n (known_at bs x)
