-- Where all registers are known, a run can halt in one way.
use Rattle.std.proofs.Common.{◌≡◌, ℕ, ◌+◌, ◌%◌, ◌==◌, ◌<◌, Bool, true, false, if◌then◌else◌, nat_le, List, length, Option, Some, None, Result, Ok, Err, is_some, refl, sym, ap, ◌∙◌, subst, arith, []}
use Rattle.rule_checker.specs.CarriedBounds.{AreRegisters}
use Rattle.pages.specs.declared.access.Range.{Range}
use Rattle.pages.specs.declared.access.Fault.{Fault}
use Rattle.pages.specs.declared.access.Fault.TheVariants.{LoadMisaligned, LoadOutside, StoreMisaligned, StoreOutside, StoreToCode}
use Rattle.pages.specs.declared.access.Width.{Width}
use Rattle.pages.specs.Memory.{Memory, any_code, fetched, loaded, store_fault, value_at, width_bytes}
use Rattle.rv64_decode.specs.declared.instruction.Instr.{Instr}
use Rattle.rv64_decode.specs.declared.ordering.AcquireRelease.{AcquireRelease}
use Rattle.rv64_decode.specs.Table.{instr_of}
use Rattle.round_schedule.specs.declared.access.Stepped.TheVariants.{Stopped}
use Rattle.round_schedule.specs.declared.span.Span.{Span}
use Rattle.round_schedule.specs.Schedule.{StepOutcome}
use Rattle.hart_step.specs.declared.hart.Hart.{Hart}
use Rattle.hart_step.specs.declared.hart.Stop.{Stop}
use Rattle.hart_step.specs.Console.{ConsoleState}
use Rattle.hart_step.specs.Effect.{Action, Put, Jump, Branch, Read, Write, Order, Halt, Reserve, Conditional, Exchange, Call, action}
use Rattle.hart_step.specs.Registers.{reg}
use Rattle.hart_step.specs.SerialStep.{answered, conditional_by, exchanged_by, is_reserved, reserved_by, returned, serial_stepped, served, with_console}
use Rattle.hart_step.specs.Step.{branched, by_instr, by_word, read_by, stopped_by, stopped_with, written_by, next_pc, put_to}
use Rattle.memory_order.specs.Registers.{registers_of}
use Rattle.execution.specs.Executions.{IsLike}
use Rattle.all_endings.specs.Locality.{Refines, filled, view}
use Rattle.all_endings.specs.Stopping.{StopsAreKnown, stop_at, stop_in, stop_of_jump, stop_of_load, stop_of_store, stop_with}
use Rattle.all_endings.proofs.DecodedRegisters.{word_fits}
use Rattle.all_endings.proofs.Locality.{action_local, known_same}

-- ---- memory like the image's has its faults

load_fault : (b c : Bool) (v u : ℕ) (d e f : Fault) → (if b then (if c then Ok v else Err d) else Err e) ≡ Err f → (if b then (if c then Ok u else Err d) else Err e) ≡ Err f
load_fault true true v u d e f h = absurd (cc)
load_fault true false v u d e f h = h
load_fault false c v u d e f h = h

load_like : (image m : Memory) (a : ℕ) (w : Width) (f : Fault) → IsLike image m → loaded m a w ≡ Err f → loaded image a w ≡ Err f
unfolding loaded
load_like image m a w f like e =
    subst (λ (n : ℕ). (if a % width_bytes w == 0 then (if nat_le (a + width_bytes w) n then Ok (value_at image.bytes a w) else Err LoadOutside) else Err LoadMisaligned) ≡ Err f) like.size
    (load_fault (a % width_bytes w == 0) (nat_le (a + width_bytes w) (length m.bytes)) (value_at m.bytes a w) (value_at image.bytes a w) LoadOutside LoadMisaligned f e)

store_like : (image m : Memory) (a : ℕ) (w : Width) (f : Option Fault) → IsLike image m → store_fault m a w ≡ f → store_fault image a w ≡ f
unfolding store_fault
store_like image m a w f like e =
    subst (λ (n : ℕ). (if a % width_bytes w == 0 then (if nat_le (a + width_bytes w) n then (if any_code image.code a (width_bytes w) then Some StoreToCode else None) else Some StoreOutside) else Some StoreMisaligned) ≡ f) like.size
    (subst (λ (rs : List Range). (if a % width_bytes w == 0 then (if nat_le (a + width_bytes w) (length m.bytes) then (if any_code rs a (width_bytes w) then Some StoreToCode else None) else Some StoreOutside) else Some StoreMisaligned) ≡ f) like.code e)

-- ---- what stops

module _ (image m : Memory) (like : IsLike image m) (n : ℕ) (h : Hart) (c : ConsoleState) (r : Option Span) (code : ℕ) (s : Stop) where
  -- an outcome that stops its hart so
  abbrev Ends : Option Stop → StepOutcome Hart → Type 0
  Ends e o = o.answer ≡ Stopped code → o.hart.stop ≡ Some s → e ≡ Some s

  jump_ends : (rd target : ℕ) (b : Bool) → Ends (if b then None else Some (stop_with 4)) (if b then put_to h rd (next_pc h) target else stopped_by h 4)
  jump_ends rd target true a e = absurd (cc)
  jump_ends rd target false a e = e

  branch_ends : (taken : Bool) (target : ℕ) → Ends (if taken then stop_of_jump target else None) (branched h taken target)
  branch_ends true target a e = jump_ends 0 target (target % 4 == 0) a e
  branch_ends false target a e = absurd (cc)

  read_ends : (rd x : ℕ) (w : Width) (signed : Bool) (o : Result ℕ Fault) → loaded m x w ≡ o → Ends (stop_of_load (loaded image x w)) (read_by h rd x w signed o)
  read_ends rd x w signed (Err f) at a e = ap stop_of_load (load_like image m x w f like at) ∙ e
  read_ends rd x w signed (Ok v) at a e = absurd (cc)

  write_ends : (x : ℕ) (w : Width) (v : ℕ) (o : Option Fault) → store_fault m x w ≡ o → Ends (stop_of_store (store_fault image x w)) (written_by h x w v o)
  write_ends x w v (Some f) at a e = ap stop_of_store (store_like image m x w (Some f) like at) ∙ e
  write_ends x w v None at a e = absurd (cc)

  reserve_ends : (rd x : ℕ) (w : Width) (q : AcquireRelease) (o : Result ℕ Fault) → loaded m x w ≡ o → Ends (stop_of_load (loaded image x w)) (reserved_by h rd x w q o)
  reserve_ends rd x w q (Err f) at a e = ap stop_of_load (load_like image m x w f like at) ∙ e
  reserve_ends rd x w q (Ok v) at a e = absurd (cc)

  conditional_ends : (rd x : ℕ) (w : Width) (v : ℕ) (q : AcquireRelease) (holds : Bool) (o : Option Fault) → store_fault m x w ≡ o → Ends (stop_of_store (store_fault image x w)) (conditional_by h rd x w v q holds o)
  conditional_ends rd x w v q holds (Some f) at a e = ap stop_of_store (store_like image m x w (Some f) like at) ∙ e
  conditional_ends rd x w v q true None at a e = absurd (cc)
  conditional_ends rd x w v q false None at a e = absurd (cc)

  exchange_ends : (rd x : ℕ) (w : Width) (f : ℕ → ℕ) (q : AcquireRelease) (old : ℕ) (o : Option Fault) → store_fault m x w ≡ o → Ends (stop_of_store (store_fault image x w)) (exchanged_by h rd x w f q old o)
  exchange_ends rd x w f q old (Some g) at a e = ap stop_of_store (store_like image m x w (Some g) like at) ∙ e
  exchange_ends rd x w f q old None at a e = absurd (cc)

  call_ends : (b : Bool) →
      (if b then record { answer = Stopped 1; hart = stopped_with h 1 (reg h.x 10); stores = []; console = c } else returned h (answered n (reg h.x 17) (reg h.x 10) c)).answer ≡ Stopped code →
      (if b then record { answer = Stopped 1; hart = stopped_with h 1 (reg h.x 10); stores = []; console = c } else returned h (answered n (reg h.x 17) (reg h.x 10) c)).hart.stop ≡ Some s →
      (if b then Some (record { code = 1; value = reg h.x 10 }) else None) ≡ Some s
  call_ends true a e = e
  call_ends false a e = absurd (cc)

  served_ends : (b : Action) → (served b n h m c r).answer ≡ Stopped code → (served b n h m c r).hart.stop ≡ Some s → stop_in image h.x b ≡ Some s
  served_ends (Put rd v) a e = absurd (cc)
  served_ends (Jump rd target) a e = jump_ends rd target (target % 4 == 0) a e
  served_ends (Branch taken target) a e = branch_ends taken target a e
  served_ends (Read rd x w signed) a e = read_ends rd x w signed (loaded m x w) refl a e
  served_ends (Write x w v) a e = write_ends x w v (store_fault m x w) refl a e
  served_ends (Order before after mode) a e = absurd (cc)
  served_ends (Halt k) a e = e
  served_ends (Reserve rd x w q) a e = reserve_ends rd x w q (loaded m x w) refl a e
  served_ends (Conditional rd x w v q) a e = conditional_ends rd x w v q (is_reserved r x w) (store_fault m x w) refl a e
  served_ends (Exchange rd x w f q) a e = exchange_ends rd x w f q (value_at m.bytes x w) (store_fault m x w) refl a e
  served_ends Call a e = call_ends (reg h.x 17 == 0) a e

-- ---- registers that are known

same_action : (i : Instr) (v : List (Option ℕ)) (x : List ℕ) (pc : ℕ) → Refines v x → ((q : ℕ) → q < 32 → is_some (view v q) ≡ true) → AreRegisters (registers_of i) →
    action i (filled v) pc ≡ action i x pc
same_action i v x pc refines knows fit = action_local i (filled v) x pc (record {
  but_data = record {
    address = known_same v x (registers_of i).address refines (knows (registers_of i).address fit.address);
    first = known_same v x (registers_of i).first refines (knows (registers_of i).first fit.first);
    second = known_same v x (registers_of i).second refines (knows (registers_of i).second fit.second);
  };
  value = known_same v x (registers_of i).value refines (knows (registers_of i).value fit.value);
})

-- the stop of an action looks at x10 and x17 alone
stop_same : (image : Memory) (x y : List ℕ) (b : Action) → reg x 10 ≡ reg y 10 → reg x 17 ≡ reg y 17 → stop_in image x b ≡ stop_in image y b
stop_same image x y Call ten seventeen =
    ap (λ (v : ℕ). if v == 0 then Some (record { code = 1; value = reg x 10 }) else None) seventeen
    ∙ ap (λ (v : ℕ). if reg y 17 == 0 then Some (record { code = 1; value = v }) else None) ten
stop_same image x y (Put rd v) ten seventeen = refl
stop_same image x y (Jump rd target) ten seventeen = refl
stop_same image x y (Branch taken target) ten seventeen = refl
stop_same image x y (Read rd a w signed) ten seventeen = refl
stop_same image x y (Write a w v) ten seventeen = refl
stop_same image x y (Order before after mode) ten seventeen = refl
stop_same image x y (Halt code) ten seventeen = refl
stop_same image x y (Reserve rd a w o) ten seventeen = refl
stop_same image x y (Conditional rd a w v o) ten seventeen = refl
stop_same image x y (Exchange rd a w f o) ten seventeen = refl

-- ---- by the word at the pc

module _ (image m : Memory) (like : IsLike image m) (n : ℕ) (h : Hart) (c : ConsoleState) (r : Option Span) (code : ℕ) (s : Stop) (v : List (Option ℕ)) (refines : Refines v h.x)
    (knows : (q : ℕ) → q < 32 → is_some (view v q) ≡ true) where
  by_instr_ends : (o : Option Instr) → ((i : Instr) → o ≡ Some i → AreRegisters (registers_of i)) →
      (by_instr o (with_console c (stopped_by h 2)) (λ i. served (action i h.x h.pc) n h m c r)).answer ≡ Stopped code →
      (by_instr o (with_console c (stopped_by h 2)) (λ i. served (action i h.x h.pc) n h m c r)).hart.stop ≡ Some s →
      by_instr o (Some (stop_with 2)) (λ i. stop_in image (filled v) (action i (filled v) h.pc)) ≡ Some s
  by_instr_ends None fit a e = e
  by_instr_ends (Some i) fit a e =
      ap (stop_in image (filled v)) (same_action i v h.x h.pc refines knows (fit i refl))
      ∙ stop_same image (filled v) h.x (action i h.x h.pc) (known_same v h.x 10 refines (knows 10 (omega arith))) (known_same v h.x 17 refines (knows 17 (omega arith)))
      ∙ served_ends image m like n h c r code s (action i h.x h.pc) a e

  by_word_ends : (o : Option ℕ) → (by_word o (with_console c (stopped_by h 3)) (with_console c (stopped_by h 2)) (λ i. served (action i h.x h.pc) n h m c r)).answer ≡ Stopped code →
      (by_word o (with_console c (stopped_by h 3)) (with_console c (stopped_by h 2)) (λ i. served (action i h.x h.pc) n h m c r)).hart.stop ≡ Some s →
      by_word o (Some (stop_with 3)) (Some (stop_with 2)) (λ i. stop_in image (filled v) (action i (filled v) h.pc)) ≡ Some s
  by_word_ends None a e = e
  by_word_ends (Some w) a e = by_instr_ends (instr_of w) (λ i at. word_fits w i at) a e

  stepped_ends : (serial_stepped n h m c r).answer ≡ Stopped code → (serial_stepped n h m c r).hart.stop ≡ Some s → stop_at image (filled v) h.pc ≡ Some s
  unfolding serial_stepped
  stepped_ends a e = subst (λ (o : Option ℕ). by_word o (Some (stop_with 3)) (Some (stop_with 2)) (λ i. stop_in image (filled v) (action i (filled v) h.pc)) ≡ Some s)
      (like.words h.pc) (by_word_ends (fetched m h.pc) a e)

pub stops_known : StopsAreKnown
stops_known image a s x knows =
    let p = x.step in
    subst (λ (pc : ℕ). stop_at image (filled a.registers) pc ≡ Some s) (sym x.lags.pc)
    (stepped_ends image p.seen p.like x.round x.hart x.before p.held x.code s a.registers x.lags.registers knows p.answers
    (ap (λ (k : Hart). k.stop) (sym p.hart) ∙ x.stopped))
