-- States that are ahead of others: with lower bounds, and more that is known. What a state can do, each one can that is ahead of it.
use Rattle.std.specs.Prelude.{◌≡◌, ℕ, ◌≤◌, true, List, [], ◌∷◌, length, Option, Some, None}
use Rattle.all_endings.specs.Locality.{view}
use Rattle.all_endings.specs.Lowering.{CarriedAtMost, IsLower, KindsAtMost, is_held}
use Rattle.all_endings.specs.RunStates.{OwnByte, RunState}

-- what o knows, p knows
abbrev pub Tells : Option ℕ → Option ℕ → Type 0
Tells o p = (n : ℕ) → o ≡ Some n → p ≡ Some n

-- the same of registers
abbrev pub TellsAll : List (Option ℕ) → List (Option ℕ) → Type 0
TellsAll v w = (r n : ℕ) → view v r ≡ Some n → view w r ≡ Some n

-- and of what was put out, byte by byte
pub data OutputTells : List (Option ℕ) → List (Option ℕ) → Type 0 where
  tells-nothing : OutputTells [] []
  tells-more : (o p : Option ℕ) (os ps : List (Option ℕ)) → Tells o p → OutputTells os ps → OutputTells (o ∷ os) (p ∷ ps)

-- the same own store, of which no less is known, and whose address and data depend on nothing later (rule 12)
pub data OwnAhead : Option OwnByte → Option OwnByte → Type 0 where
  ahead-none : OwnAhead None None
  ahead-both : (o p : OwnByte) → o.place ≡ p.place → Tells p.byte o.byte → o.atomic ≡ p.atomic → o.needs ≤ p.needs → OwnAhead (Some o) (Some p)

-- a is ahead of b: a's bounds are at most b's, a knows what b knows, and the rest is the same
pub record IsAhead (a b : RunState) : Type 0 where
  pub pc : a.pc ≡ b.pc
  pub size : length a.registers ≡ length b.registers
  pub registers : TellsAll b.registers a.registers
  pub kinds : KindsAtMost a.kinds b.kinds
  pub carried : CarriedAtMost a.carried b.carried
  pub touched : (x : ℕ) → a.touched x ≤ b.touched x
  pub seen : (x : ℕ) → a.seen x ≤ b.seen x
  pub own : (x : ℕ) → OwnAhead (a.own x) (b.own x)
  pub held : a.held ≡ b.held
  pub reserved : a.reserved ≤ b.reserved
  pub sources : (x : ℕ) → is_held b.held x ≡ true → b.sources x ≤ a.sources x
  pub output : OutputTells b.output a.output

-- lower states are ahead
abbrev pub LowerStatesAreAhead : Type 0
LowerStatesAreAhead = (a b : RunState) → IsLower a b → IsAhead a b
