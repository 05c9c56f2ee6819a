-- One hart's run against a list of stores. Beside each bound is the manual's rule (section 14.1.3) that it is kept for.
use Rattle.std.specs.Prelude.{◌≡◌, ◌≢◌, ℕ, ◌+◌, ◌^◌, ◌%◌, ◌<◌, ◌≤◌, ◌⊎◌, Bool, true, false, if◌then◌else◌, List, [], ◌∷◌, ◌++◌, length, slice_index_or, is_ok, option_map, Option, Some, None}
use Rattle.hart_step.specs.Console.{all_ones}
use Rattle.pages.specs.declared.access.Width.{Width}
use Rattle.pages.specs.Memory.{Memory, byte_of, loaded, store_fault, width_bytes}
use Rattle.rv64_decode.specs.declared.instruction.Instr.TheVariants.{Ecall}
use Rattle.rv64_decode.specs.declared.ordering.AcquireRelease.{AcquireRelease}
use Rattle.rv64_decode.specs.declared.ordering.FenceMode.{FenceMode}
use Rattle.rv64_decode.specs.declared.ordering.FenceSet.{FenceSet}
use Rattle.round_schedule.specs.declared.access.Access.TheVariants.{Load, Store, LoadReserved, StoreConditional, Atomic, Fence}
use Rattle.round_schedule.specs.Accesses.{address_of, bytes_of}
use Rattle.round_schedule.specs.Accesses.{stores as writing}
use Rattle.hart_step.specs.DecodedCode.{decoded}
use Rattle.hart_step.specs.Effect.{Action, Put, Jump, Branch, Read, Write, Order, Reserve, Conditional, Exchange, action}
use Rattle.hart_step.specs.Numbers.{plus, sx}
use Rattle.hart_step.specs.Step.{cut, extended_to, width_bits}
use Rattle.memory_order.specs.Operations.{covers}
use Rattle.memory_order.specs.Registers.{registers_of}
use Rattle.rule_checker.specs.CarriedBounds.{AllowedBy}
use Rattle.rule_checker.specs.Kinds.{AllowedByKind}
use Rattle.execution.specs.Executions.{no_access}
use Rattle.all_endings.specs.Locality.{Knows, KnowsButData, filled, view, without_data}
use Rattle.all_endings.specs.RunStates.{Move, OwnByte, RunState, moved, operates}
use Rattle.all_endings.specs.StoreLists.{Stored, byte_at, has_byte, last_place, later, no_store}

-- ---- loads

-- a store of the hart's own is not behind this time
abbrev pub IsPast : Option OwnByte → ℕ → Type 0
IsPast None time = Unit {0}
IsPast (Some o) time = o.place ≤ time

-- byte x of a load at a time is from the store before a place, and is this byte
pub data IsRead (m : List Stored) (opening : ℕ → ℕ) (a : RunState) (time x : ℕ) : ℕ → ℕ → Type 0 where
  -- the own last store, where it stands behind the load: no AMO or SC (rule 3), its address and data not from behind the load (rule 12),
  -- and none before what was seen (rule 2)
  forwarded : (o : OwnByte) (byte : ℕ) → a.own x ≡ Some o → time < o.place → o.atomic ≡ false → o.needs ≤ time → a.seen x ≤ o.place →
      o.byte ≡ Some byte → IsRead m opening a time x o.place byte
  -- else the latest store before the time, and none before what was seen (rule 2)
  remembered : IsPast (a.own x) time → a.seen x ≤ last_place m x time →
      IsRead m opening a time x (last_place m x time) (byte_at m opening x (last_place m x time))

-- the number that a load gets: byte by byte, or unknown where the load is LATER
pub data Gets (m : List Stored) (opening : ℕ → ℕ) (a : RunState) (v : Move) (address : ℕ) (w : Width) : Option ℕ → Type 0 where
  gets : (n : ℕ) → v.time < later m → n < 2 ^ width_bits w →
      ((k : ℕ) → k < width_bytes w → IsRead m opening a v.time (address + k) (v.source (address + k)) (byte_of n k)) → Gets m opening a v address w (Some n)
  gets-later : v.time ≡ later m → ((x : ℕ) → v.source x ≡ 0) → Gets m opening a v address w None

-- ---- stores

-- a store is one of the list at its time: the same bytes, and the same number in them
pub record IsListed (h : ℕ) (m : List Stored) (v : Move) : Type 0 where
  pub within : v.time < length m
  pub hart : (slice_index_or m v.time no_store).hart ≡ h
  pub address : (slice_index_or m v.time no_store).address ≡ address_of v.access
  pub bytes : (slice_index_or m v.time no_store).bytes ≡ bytes_of v.access
  pub number : v.written ≡ Some (slice_index_or m v.time no_store).number

abbrev pub IsPlaced : ℕ → List Stored → Move → Type 0
IsPlaced h m v = (v.time ≡ later m) ⊎ IsListed h m v

-- between what the LR read and the SC no other hart stores (section 14.1.4, atomicity)
abbrev pub IsUnbroken : ℕ → List Stored → RunState → Move → Type 0
IsUnbroken h m a v =
    (k x : ℕ) → v.time ≤ length m → k < v.time → covers v.access x ≡ true → has_byte (slice_index_or m k no_store) x ≡ true →
    (slice_index_or m k no_store).hart ≢ h → k < a.sources x

-- ---- instructions

-- the action, with 0 for each unknown number
abbrev pub acts : RunState → Move → Action
acts a v = action v.instruction (filled a.registers) a.pc

abbrev pub KnowsAll : RunState → Move → Type 0
KnowsAll a v = Knows (registers_of v.instruction) a.registers

abbrev pub KnowsMost : RunState → Move → Type 0
KnowsMost a v = KnowsButData (registers_of v.instruction) a.registers

-- the number of the data register
abbrev pub data_of : RunState → Move → Option ℕ
data_of a v = view a.registers (registers_of v.instruction).value

abbrev pub IsReadable : Memory → ℕ → Width → Type 0
IsReadable image address w = is_ok (loaded image address w) ≡ true

abbrev pub IsWritable : Memory → ℕ → Width → Type 0
IsWritable image address w = store_fault image address w ≡ None

-- the answer of a call: 0 where a byte is put out; what is taken in, and the number of the round, are left open; else 2^64 - 1
abbrev pub IsAnswer : ℕ → ℕ → Type 0
IsAnswer number answer = (number ≡ 1 → answer ≡ 0) × (number ≢ 1 → number ≢ 2 → number ≢ 3 → answer ≡ all_ones)

-- what an instruction that goes on does, where a store has its place. An unknown branch, indirect jump, address or number of a call has no move
pub data Acts (image : Memory) (h : ℕ) (m : List Stored) (opening : ℕ → ℕ) (HasPlace : Move → Type 0) (a : RunState) (v : Move) : Type 0 where
  puts : (rd n : ℕ) → KnowsAll a v → acts a v ≡ Put rd n → v.access ≡ no_access → v.result ≡ Some n → v.next ≡ plus a.pc 4 → Acts image h m opening HasPlace a v
  puts-unknown : (rd n : ℕ) → (KnowsAll a v → ⊥) → acts a v ≡ Put rd n → v.access ≡ no_access → v.result ≡ None → v.next ≡ plus a.pc 4 →
      Acts image h m opening HasPlace a v
  jumps : (rd target : ℕ) → KnowsAll a v → acts a v ≡ Jump rd target → target % 4 ≡ 0 → v.access ≡ no_access → v.result ≡ Some (plus a.pc 4) →
      v.next ≡ target → Acts image h m opening HasPlace a v
  branches : (taken : Bool) (target : ℕ) → KnowsAll a v → acts a v ≡ Branch taken target → (taken ≡ true → target % 4 ≡ 0) → v.access ≡ no_access →
      v.next ≡ (if taken then target else plus a.pc 4) → Acts image h m opening HasPlace a v
  orders : (before after : FenceSet) (mode : FenceMode) → acts a v ≡ Order before after mode → v.access ≡ Fence before after mode 0 →
      v.next ≡ plus a.pc 4 → Acts image h m opening HasPlace a v
  reads : (rd address : ℕ) (w : Width) (signed : Bool) (number : Option ℕ) → KnowsAll a v → acts a v ≡ Read rd address w signed →
      IsReadable image address w → v.access ≡ Load w 0 address 0 → Gets m opening a v address w number → v.result ≡ option_map (extended_to signed w) number →
      v.next ≡ plus a.pc 4 → Acts image h m opening HasPlace a v
  stores : (address : ℕ) (w : Width) → KnowsMost a v → without_data (acts a v) ≡ Write address w 0 → IsWritable image address w →
      v.access ≡ Store w 0 address 0 → v.written ≡ option_map (cut w) (data_of a v) → HasPlace v → v.next ≡ plus a.pc 4 → Acts image h m opening HasPlace a v
  reserves : (rd address : ℕ) (w : Width) (ordering : AcquireRelease) (number : Option ℕ) → KnowsAll a v → acts a v ≡ Reserve rd address w ordering →
      IsReadable image address w → v.access ≡ LoadReserved w ordering 0 address 0 → Gets m opening a v address w number →
      v.result ≡ option_map (sx (width_bits w)) number → v.next ≡ plus a.pc 4 → Acts image h m opening HasPlace a v
  -- an SC may always fail (section 8.2)
  fails : (rd address : ℕ) (w : Width) (ordering : AcquireRelease) → KnowsMost a v → without_data (acts a v) ≡ Conditional rd address w 0 ordering →
      IsWritable image address w → v.access ≡ StoreConditional w ordering 0 address None → v.result ≡ Some 1 → v.next ≡ plus a.pc 4 → Acts image h m opening HasPlace a v
  -- rule 8: it stands behind its LR
  succeeds : (rd address : ℕ) (w : Width) (ordering : AcquireRelease) → KnowsMost a v → without_data (acts a v) ≡ Conditional rd address w 0 ordering →
      IsWritable image address w → v.access ≡ StoreConditional w ordering 0 address (Some 0) → v.written ≡ option_map (cut w) (data_of a v) →
      a.held ≡ Some (record { address = address; width = w }) → a.reserved ≤ v.time → HasPlace v → IsUnbroken h m a v → v.result ≡ Some 0 →
      v.next ≡ plus a.pc 4 → Acts image h m opening HasPlace a v
  exchanges : (rd address : ℕ) (w : Width) (f : ℕ → ℕ) (ordering : AcquireRelease) (number : Option ℕ) → KnowsAll a v →
      acts a v ≡ Exchange rd address w f ordering → IsWritable image address w → v.access ≡ Atomic w ordering 0 address 0 0 → Gets m opening a v address w number →
      v.result ≡ option_map (sx (width_bits w)) number → v.written ≡ option_map f number → HasPlace v → v.next ≡ plus a.pc 4 → Acts image h m opening HasPlace a v
  exchanges-unknown : (rd address : ℕ) (w : Width) (ordering : AcquireRelease) → KnowsMost a v → data_of a v ≡ None →
      without_data (acts a v) ≡ Exchange rd address w (λ old. 0) ordering → IsWritable image address w → v.access ≡ Atomic w ordering 0 address 0 0 →
      Gets m opening a v address w None → v.result ≡ None → v.written ≡ None → v.next ≡ plus a.pc 4 → Acts image h m opening HasPlace a v
  -- a call that goes on
  calls : (number answer : ℕ) → v.instruction ≡ Ecall → view a.registers 17 ≡ Some number → number ≢ 0 → IsAnswer number answer → v.access ≡ no_access → v.result ≡ Some answer →
      v.next ≡ plus a.pc 4 → Acts image h m opening HasPlace a v

-- an operation stands where the bounds let it
pub record Stands (a : RunState) (v : Move) : Type 0 where
  -- rules 4 to 7
  pub kinds : AllowedByKind a.kinds v.access v.time
  -- rules 9, 10, 11 and 13
  pub carried : AllowedBy a.carried (registers_of v.instruction) v.access v.time
  -- rule 1
  pub touched : (x : ℕ) → writing v.access ≡ true → covers v.access x ≡ true → a.touched x ≤ v.time

-- a run of hart h against a list of stores, with its moves
pub data Runs (image : Memory) (h : ℕ) (m : List Stored) (opening : ℕ → ℕ) : RunState → List Move → RunState → Type 0 where
  runs-none : (a : RunState) → Runs image h m opening a [] a
  runs-more : (a b : RunState) (vs : List Move) (v : Move) → Runs image h m opening a vs b → decoded image b.pc ≡ Some v.instruction →
      Acts image h m opening (IsPlaced h m) b v → (operates v ≡ true → Stands b v) → Runs image h m opening a (vs ++ v ∷ []) (moved h m b v)
