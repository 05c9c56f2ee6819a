-- What lies between an index and a later operation, and may make that one depend on what comes before the index.
use Rattle.std.specs.Prelude.{◌≡◌, ℕ, ◌<◌, ◌≤◌, ◌&&◌, ◌||◌, ◌⊎◌, Bool, true, false, List, length, slice_index_or}
use Rattle.rv64_decode.specs.declared.instruction.Instr.{Instr}
use Rattle.round_schedule.specs.declared.access.Access.{Access}
use Rattle.round_schedule.specs.declared.access.Access.TheVariants.{Fence}
use Rattle.round_schedule.specs.declared.event.Event.{Event}
use Rattle.round_schedule.specs.Accesses.{loads, stores}
use Rattle.round_schedule.specs.Positions.{ProgramBefore, event}
use Rattle.memory_order.specs.Operations.{is_normal, is_store}
use Rattle.memory_order.specs.declared.registers.Registers.{Registers}
use Rattle.memory_order.specs.Dependencies.{Depends, IsSourceRegister, registers_at}
use Rattle.order_rules.specs.declared.behind.Behind.{Behind}
use Rattle.order_rules.specs.declared.rule.OrderRule.{OrderRule}
use Rattle.order_rules.specs.declared.rule.OrderRule.TheVariants.{OverlappingStore, DifferentWrites, ReturnsAtomic, Fenced, Acquired, Released, BothAnnotated, Paired, ByAddress, ByData, ByControl, ByForwarding, ByAddressBetween}
use Rattle.order_rules.specs.Orders.{FencedBy, NoneAsks, Returns}

-- by one of the rules 9 to 13 the operation at b stands behind what register r of the instruction at m depends on
pub data Demands (is : List Instr) (t : List Event) (pos : ℕ → ℕ) (b : ℕ) : ℕ → ℕ → Type 0 where
  own-address : Demands is t pos b b (registers_at is b).address
  own-value : Demands is t pos b b (registers_at is b).value
  steering : (m r : ℕ) → is_store (event t b) ≡ true → ProgramBefore t m b → (registers_at is m).steers ≡ true →
      IsSourceRegister (registers_at is m) r → Demands is t pos b m r
  forwarded-address : (m : ℕ) → ProgramBefore t m b → Returns t pos m b → Demands is t pos b m (registers_at is m).address
  forwarded-value : (m : ℕ) → ProgramBefore t m b → Returns t pos m b → Demands is t pos b m (registers_at is m).value
  address-between : (m : ℕ) → is_store (event t b) ≡ true → ProgramBefore t m b → Demands is t pos b m (registers_at is m).address

-- a fence that keeps the loads before it before the access b behind it, and one that keeps stores
abbrev pub keeps_loads : Access → Access → Bool
keeps_loads (Fence before after mode p) b = before.reads && ((after.reads && loads b) || (after.writes && stores b))
keeps_loads _ b = false

abbrev pub keeps_stores : Access → Access → Bool
keeps_stores (Fence before after mode p) b = before.writes && ((after.writes && stores b) || (after.reads && loads b && is_normal mode))
keeps_stores _ b = false

-- a register is among those that are needed
abbrev pub is_needed : Behind → ℕ → Bool
is_needed d q = slice_index_or d.needed q false

-- all source registers of an instruction are
pub record NeedsAll (needed : List Bool) (x : Registers) : Type 0 where
  pub address : slice_index_or needed x.address false ≡ true
  pub value : slice_index_or needed x.value false ≡ true
  pub first : slice_index_or needed x.first false ≡ true
  pub second : slice_index_or needed x.second false ≡ true

-- of what depends on an instruction before k, what is demanded from k on goes through a register that is needed there; and what a fence from k on
-- keeps is noted
pub record IsBehind (is : List Instr) (t : List Event) (pos : ℕ → ℕ) (b k : ℕ) (d : Behind) : Type 0 where
  pub needed : (a m r : ℕ) → a < k → k ≤ m → Demands is t pos b m r → Depends is t (event t b).hart m r a →
      (q : ℕ) × (is_needed d q ≡ true) × Depends is t (event t b).hart k q a
  pub fenced : (a f : ℕ) → k ≤ f → FencedBy t a b f →
      ((loads (event t a).access ≡ true) × (d.loads ≡ true)) ⊎ ((stores (event t a).access ≡ true) × (d.stores ≡ true))

-- whether a rule goes by two operations and their bytes, and neither by a fence between them nor by a dependency
abbrev pub is_of_pair : OrderRule → Bool
is_of_pair OverlappingStore = true
is_of_pair DifferentWrites = true
is_of_pair ReturnsAtomic = true
is_of_pair Fenced = false
is_of_pair Acquired = true
is_of_pair Released = true
is_of_pair BothAnnotated = true
is_of_pair Paired = true
is_of_pair ByAddress = false
is_of_pair ByData = false
is_of_pair ByControl = false
is_of_pair ByForwarding = false
is_of_pair ByAddressBetween = false

-- of the indexes from k on below b, those with a no are ordered before b by no rule
pub record AreCandidates (is : List Instr) (t : List Event) (pos : ℕ → ℕ) (b k : ℕ) (may : List Bool) : Type 0 where
  pub size : length may ≡ b
  pub none : (a : ℕ) → k ≤ a → a < b → slice_index_or may a true ≡ false → ProgramBefore t a b → NoneAsks is t pos a b
