-- What a hart's run against a list of stores keeps: what is read LATER is unknown, and all that RVWMO asks of an operation is a lower
-- bound for its time. Beside each bound is the manual's rule (section 14.1.3) that it is kept for.
use Rattle.std.specs.Prelude.{ℕ, ◌+◌, ◌-◌, ◌&&◌, ◌||◌, Bool, min, max, if◌then◌else◌, List, map, option_map, Option, Some, None, [], ◌∷◌, ◌++◌, ◌%◌, ◌^◌, ◌==◌}
use Rattle.pages.specs.Memory.{byte_of}
use Rattle.rv64_decode.specs.declared.instruction.Instr.{Instr}
use Rattle.rv64_decode.specs.declared.instruction.Instr.TheVariants.{Ecall}
use Rattle.round_schedule.specs.declared.access.Access.{Access}
use Rattle.round_schedule.specs.declared.access.Access.TheVariants.{Load, Store, LoadReserved, StoreConditional, Atomic, Fence}
use Rattle.round_schedule.specs.declared.span.Span.{Span}
use Rattle.round_schedule.specs.Accesses.{address_of, is_lr, is_sc, loads, stores, writes}
use Rattle.round_schedule.specs.Held.{held_after_own}
use Rattle.hart_step.specs.declared.hart.Hart.{Hart}
use Rattle.memory_order.specs.Operations.{covers, is_amo}
use Rattle.memory_order.specs.Registers.{registers_of}
use Rattle.rule_checker.specs.CarriedBounds.{carried_after, none_carried, operand_bound}
use Rattle.rule_checker.specs.Kinds.{kinds_after, no_kinds}
use Rattle.rule_checker.specs.declared.annotated.KindBounds.{KindBounds}
use Rattle.rule_checker.specs.declared.carried.Carried.{Carried}
use Rattle.execution.specs.Progressing.{step_event}
use Rattle.all_endings.specs.Locality.{set_view, view}
use Rattle.all_endings.specs.StoreLists.{Stored, later}

-- the last store of the hart to a byte
pub record OwnByte : Type 0 where
  -- the time behind it
  pub place : ℕ
  -- what it wrote, where that is known
  pub byte : Option ℕ
  -- rule 3: whether it is an AMO or an SC
  pub atomic : Bool
  -- rule 12: what its address and data depend on
  pub needs : ℕ

pub record RunState : Type 0 where
  pub pc : ℕ
  pub registers : List (Option ℕ)
  -- rules 4 to 7
  pub kinds : KindBounds
  -- rules 9, 10, 11 and 13
  pub carried : Carried
  -- rule 1: of each byte, the time behind the operations on it
  pub touched : ℕ → ℕ
  -- rule 2: of each byte, the place behind the latest store that a load has read
  pub seen : ℕ → ℕ
  -- rules 3 and 12
  pub own : ℕ → Option OwnByte
  -- the reservation; rule 8: the time behind the LR; atomicity: of each of its bytes, the place behind the store that the LR read
  pub held : Option Span
  pub reserved : ℕ
  pub sources : ℕ → ℕ
  -- what it has put out, byte by byte
  pub output : List (Option ℕ)

-- the least time of each store to byte x that comes (rules 1, 4, 5, 11 and 13)
abbrev pub stores_from : RunState → ℕ → ℕ
stores_from a x = max (a.touched x) (max (max a.kinds.acquires (max a.kinds.load_store a.kinds.store_store)) (max a.carried.steered a.carried.addressed))

abbrev pub run_start : Hart → RunState
run_start h = record {
  pc = h.pc;
  registers = map (λ v. Some v) h.x;
  kinds = no_kinds;
  carried = none_carried;
  touched = λ x. 0;
  seen = λ x. 0;
  own = λ x. None;
  held = None;
  reserved = 0;
  sources = λ x. 0;
  output = [];
}

-- an access without its numbers, and without how many instructions its hart had done before
abbrev pub bare : Access → Access
bare (Load w p a r) = Load w 0 a 0
bare (Store w p a v) = Store w 0 a 0
bare (LoadReserved w o p a r) = LoadReserved w o 0 a 0
bare (StoreConditional w o p a None) = StoreConditional w o 0 a None
bare (StoreConditional w o p a (Some v)) = StoreConditional w o 0 a (Some 0)
bare (Atomic w o p a r v) = Atomic w o 0 a 0 0
bare (Fence b a m p) = Fence b a m 0

-- an instruction that a run does
pub record Move : Type 0 where
  pub instruction : Instr
  -- its access, bare
  pub access : Access
  pub time : ℕ
  -- what the destination register gets, and what memory gets
  pub result : Option ℕ
  pub written : Option ℕ
  -- of each byte that it loads, the place behind the store that it is from
  pub source : ℕ → ℕ
  pub next : ℕ

-- whether it is one of the memory model's operations, and the time behind it
abbrev pub operates : Move → Bool
operates v = loads v.access || stores v.access

abbrev pub behind : List Stored → Move → ℕ
behind m v = min (if stores v.access then v.time + 1 else v.time) (later m)

-- the register that it writes: an ECALL's answer is in x10
abbrev pub answers_to : Instr → ℕ
answers_to Ecall = 10
answers_to i = (registers_of i).destination

-- what an instruction puts out: an ECALL, by its number, the low byte of its argument
abbrev pub put_byte : Option ℕ → Option ℕ → List (Option ℕ)
put_byte None argument = []
put_byte (Some number) argument = if number == 1 then option_map (λ n. n % 2 ^ 8) argument ∷ [] else []

abbrev pub puts_out : List (Option ℕ) → Instr → List (Option ℕ)
puts_out v Ecall = put_byte (view v 17) (view v 10)
puts_out v i = []

-- what a move of hart h leaves, where this is the time behind it
abbrev pub moved_at : ℕ → ℕ → RunState → Move → RunState
moved_at h after a v = record {
  pc = v.next;
  registers = set_view a.registers (answers_to v.instruction) v.result;
  kinds = kinds_after a.kinds v.access (operates v) after;
  carried = carried_after a.carried (registers_of v.instruction) (step_event h (Some v.access)) after;
  touched = λ x. if operates v && covers v.access x then max (a.touched x) after else a.touched x;
  seen = λ x. if loads v.access && covers v.access x then max (a.seen x) (v.source x) else a.seen x;
  own = λ x. if writes v.access x
      then Some (record {
        place = after;
        byte = option_map (λ n. byte_of n (x - address_of v.access)) v.written;
        atomic = is_amo v.access || is_sc v.access;
        needs = operand_bound a.carried (registers_of v.instruction);
      })
      else a.own x;
  held = held_after_own v.access a.held;
  reserved = (if is_lr v.access then after else a.reserved);
  sources = (if is_lr v.access then v.source else a.sources);
  output = a.output ++ puts_out a.registers v.instruction;
}

abbrev pub moved : ℕ → List Stored → RunState → Move → RunState
moved h m a v = moved_at h (behind m v) a v
