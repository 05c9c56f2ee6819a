-- What an instruction that goes on did: the hart afterwards and its access, by the class of its action.
use Rattle.std.proofs.Common.{◌≡◌, ◌≢◌, ℕ, ◌+◌, ◌^◌, ◌%◌, ◌==◌, ◌<◌, Bool, true, false, if◌then◌else◌, nat_le, List, [], length, All, is_ok, Option, Some, None, Result, Ok, Err, refl, sym, ap, ◌∙◌, subst, inl, inr, arith, nat_lt, ◌++◌, ◌∷◌, slice_index}
use Rattle.rv64_decode.specs.declared.instruction.Instr.TheVariants.{Ecall}
use Rattle.std.proofs.lemmas.List.{append-nil}
use Rattle.std.proofs.lemmas.Bool.{and_parts, eq-eqb, eqb-true, ne_eqb, cond-true, cond-false}
use Rattle.pages.specs.declared.access.Fault.{Fault}
use Rattle.pages.specs.declared.access.Fault.TheVariants.{LoadMisaligned, LoadOutside, StoreMisaligned, StoreOutside, StoreToCode}
use Rattle.pages.specs.declared.access.Range.{Range}
use Rattle.pages.specs.declared.access.Width.{Width}
use Rattle.pages.specs.declared.access.Width.TheVariants.{W1, W2, W4, W8}
use Rattle.pages.specs.Memory.{Memory, any_code, loaded, store_fault, fetched, value_at, width_bytes}
use Rattle.rv64_decode.specs.declared.instruction.Instr.{Instr}
use Rattle.rv64_decode.specs.declared.ordering.AcquireRelease.{AcquireRelease}
use Rattle.rv64_decode.specs.declared.ordering.FenceMode.{FenceMode}
use Rattle.rv64_decode.specs.declared.ordering.FenceSet.{FenceSet}
use Rattle.rv64_decode.specs.Table.{instr_of}
use Rattle.round_schedule.specs.declared.access.Access.{Access}
use Rattle.round_schedule.specs.declared.access.Access.TheVariants.{Load, Store, LoadReserved, StoreConditional, Atomic, Fence}
use Rattle.round_schedule.specs.declared.access.Stepped.TheVariants.{Done, Stopped}
use Rattle.round_schedule.specs.declared.span.Span.{Span}
use Rattle.round_schedule.specs.Schedule.{SerialOutcome}
use Rattle.hart_step.specs.declared.hart.Hart.{Hart}
use Rattle.hart_step.specs.DecodedCode.{decoded, instr_in}
use Rattle.hart_step.specs.Console.{ConsoleState, Answered, all_ones, output_room}
use Rattle.hart_step.specs.Effect.{Action, Put, Jump, Branch, Read, Write, Order, Halt, Reserve, Conditional, Exchange, Call, action}
use Rattle.hart_step.specs.Forms.{Fills, Formed}
use Rattle.hart_step.specs.Numbers.{sx}
use Rattle.hart_step.specs.Registers.{reg}
use Rattle.hart_step.specs.SerialStep.{answered, conditional_by, exchanged_by, is_reserved, reserved_by, returned, serial_stepped, served, with_console}
use Rattle.hart_step.specs.Step.{by_instr, by_word, cut, extended_to, next_pc, read_by, stopped_by, stopped_with, went_on, width_bits, written_by}
use Rattle.hart_step.proofs.Formation.{has_forms}
use Rattle.execution.specs.Executions.{IsLike, IsStep, MayHold}
use Rattle.execution.proofs.Answering.{decoded_like}
use Rattle.all_endings.specs.HartRuns.{IsReadable, IsWritable, IsAnswer}

-- hart h does instruction i, and becomes g; own is the reservation that its own LRs and SCs left it
pub data Did (image : Memory) (own : Option Span) (h g : Hart) (i : Instr) : Option Access → Type 0 where
  did-put : (rd v : ℕ) → action i h.x h.pc ≡ Put rd v → g ≡ went_on h rd v (next_pc h) → Did image own h g i None
  did-jump : (rd target : ℕ) → action i h.x h.pc ≡ Jump rd target → target % 4 ≡ 0 → g ≡ went_on h rd (next_pc h) target → Did image own h g i None
  did-branch : (taken : Bool) (target : ℕ) → action i h.x h.pc ≡ Branch taken target → (taken ≡ true → target % 4 ≡ 0) →
      g ≡ went_on h 0 0 (if taken then target else next_pc h) → Did image own h g i None
  did-read : (rd a v : ℕ) (w : Width) (signed : Bool) → action i h.x h.pc ≡ Read rd a w signed → IsReadable image a w → Fills w v →
      g ≡ went_on h rd (extended_to signed w v) (next_pc h) → Did image own h g i (Some (Load w h.done a v))
  did-write : (a v : ℕ) (w : Width) → action i h.x h.pc ≡ Write a w v → IsWritable image a w → g ≡ went_on h 0 0 (next_pc h) →
      Did image own h g i (Some (Store w h.done a (cut w v)))
  did-order : (before after : FenceSet) (mode : FenceMode) → action i h.x h.pc ≡ Order before after mode → g ≡ went_on h 0 0 (next_pc h) →
      Did image own h g i (Some (Fence before after mode h.done))
  did-reserve : (rd a v : ℕ) (w : Width) (o : AcquireRelease) → action i h.x h.pc ≡ Reserve rd a w o → IsReadable image a w → Fills w v →
      g ≡ went_on h rd (sx (width_bits w) v) (next_pc h) → Did image own h g i (Some (LoadReserved w o h.done a v))
  did-fail : (rd a v : ℕ) (w : Width) (o : AcquireRelease) → action i h.x h.pc ≡ Conditional rd a w v o → IsWritable image a w →
      g ≡ went_on h rd 1 (next_pc h) → Did image own h g i (Some (StoreConditional w o h.done a None))
  did-succeed : (rd a v : ℕ) (w : Width) (o : AcquireRelease) → action i h.x h.pc ≡ Conditional rd a w v o → IsWritable image a w →
      own ≡ Some (record { address = a; width = w }) → g ≡ went_on h rd 0 (next_pc h) → Did image own h g i (Some (StoreConditional w o h.done a (Some (cut w v))))
  did-exchange : (rd a old : ℕ) (w : Width) (f : ℕ → ℕ) (o : AcquireRelease) → action i h.x h.pc ≡ Exchange rd a w f o → IsWritable image a w → Fills w old →
      g ≡ went_on h rd (sx (width_bits w) old) (next_pc h) → Did image own h g i (Some (Atomic w o h.done a old (f old)))
  did-call : (answer : ℕ) → action i h.x h.pc ≡ Call → reg h.x 17 ≢ 0 → IsAnswer (reg h.x 17) answer → g ≡ went_on h 10 answer (next_pc h) → Did image own h g i None

-- ---- memory like the image's

ok_test : (b c : Bool) (v u : ℕ) (e f : Fault) → is_ok (if b then (if c then Ok v else Err e) else Err f) ≡ true → is_ok (if b then (if c then Ok u else Err e) else Err f) ≡ true
ok_test true true v u e f h = refl
ok_test true false v u e f h = cc
ok_test false c v u e f h = cc

readable_like : (image m : Memory) (a : ℕ) (w : Width) (v : ℕ) → IsLike image m → loaded m a w ≡ Ok v → IsReadable image a w
unfolding loaded
readable_like image m a w v like e =
    subst (λ (n : ℕ). is_ok (if a % width_bytes w == 0 then (if nat_le (a + width_bytes w) n then Ok (value_at image.bytes a w) else Err LoadOutside) else Err LoadMisaligned) ≡ true) like.size
    (ok_test (a % width_bytes w == 0) (nat_le (a + width_bytes w) (length m.bytes)) (value_at m.bytes a w) (value_at image.bytes a w) LoadOutside LoadMisaligned (ap (λ (r : Result ℕ Fault). is_ok r) e))

writable_like : (image m : Memory) (a : ℕ) (w : Width) → IsLike image m → store_fault m a w ≡ None → IsWritable image a w
unfolding store_fault
writable_like image m a w like e =
    subst (λ (n : ℕ). (if a % width_bytes w == 0 then (if nat_le (a + width_bytes w) n then (if any_code image.code a (width_bytes w) then Some StoreToCode else None) else Some StoreOutside) else Some StoreMisaligned) ≡ None) like.size
    (subst (λ (rs : List Range). (if a % width_bytes w == 0 then (if nat_le (a + width_bytes w) (length m.bytes) then (if any_code rs a (width_bytes w) then Some StoreToCode else None) else Some StoreOutside) else Some StoreMisaligned) ≡ None) like.code e)

-- ---- a reservation

width_same : (v w : Width) → width_bytes v ≡ width_bytes w → v ≡ w
width_same W1 W1 e = refl
width_same W1 W2 e = absurd (omega (arith, e))
width_same W1 W4 e = absurd (omega (arith, e))
width_same W1 W8 e = absurd (omega (arith, e))
width_same W2 W1 e = absurd (omega (arith, e))
width_same W2 W2 e = refl
width_same W2 W4 e = absurd (omega (arith, e))
width_same W2 W8 e = absurd (omega (arith, e))
width_same W4 W1 e = absurd (omega (arith, e))
width_same W4 W2 e = absurd (omega (arith, e))
width_same W4 W4 e = refl
width_same W4 W8 e = absurd (omega (arith, e))
width_same W8 W1 e = absurd (omega (arith, e))
width_same W8 W2 e = absurd (omega (arith, e))
width_same W8 W4 e = absurd (omega (arith, e))
width_same W8 W8 e = refl

reserved_is : (own held : Option Span) (a : ℕ) (w : Width) → MayHold own held → is_reserved held a w ≡ true → own ≡ Some (record { address = a; width = w })
reserved_is own None a w may e = cc
reserved_is own (Some s) a w (inl none) e = cc
reserved_is own (Some s) a w (inr same) e =
    let p = and_parts (s.address == a) (width_bytes s.width == width_bytes w) e in
    sym same ∙ ap (λ (x : ℕ). Some (record { address = x; width = s.width })) (eqb-true s.address a p.0)
    ∙ ap (λ (x : Width). Some (record { address = a; width = x })) (width_same s.width w (eqb-true (width_bytes s.width) (width_bytes w) p.1))

-- ---- calls

answer_is : (n number argument : ℕ) (c : ConsoleState) → nat_lt (length c.output) output_room ≡ true → IsAnswer number (answered n number argument c).value
answer_is n number argument c room = (
  λ one. ap (λ (r : Answered). r.value) (cond-true (number == 1) _ _ (eq-eqb number 1 one) ∙ cond-true (nat_lt (length c.output) output_room) _ _ room),
  λ a b d. ap (λ (r : Answered). r.value) (cond-false (number == 1) _ _ (ne_eqb number 1 a) ∙ cond-false (number == 2) _ _ (ne_eqb number 2 b) ∙ cond-false (number == 3) _ _ (ne_eqb number 3 d)),
)

-- what an instruction puts out, where there is room
abbrev pub put_in : Instr → List ℕ → List ℕ
put_in Ecall x = if reg x 17 == 1 then reg x 10 % 2 ^ 8 ∷ [] else []
put_in i x = []

abbrev pub put_at : ConsoleState → Instr → List ℕ → List ℕ
put_at c i x = if nat_lt (length c.output) output_room then put_in i x else []

none_put : (b : Bool) (o : List ℕ) → o ≡ o ++ (if b then [] else [])
none_put true o = sym (append-nil o)
none_put false o = sym (append-nil o)

abbrev answered_by : (one room two three more : Bool) (n argument : ℕ) (c : ConsoleState) → Answered
answered_by one room two three more n argument c =
    if one then (if room then record { value = 0; console = record c { output = c.output ++ (argument % 2 ^ 8) ∷ [] } } else record { value = all_ones; console = c })
    else (if two then (if more then record { value = slice_index c.input c.place; console = record c { place = c.place + 1 } } else record { value = all_ones; console = c })
    else (if three then record { value = n; console = c } else record { value = all_ones; console = c }))

by_puts : (one room two three more : Bool) (n argument : ℕ) (c : ConsoleState) →
    (answered_by one room two three more n argument c).console.output ≡ c.output ++ (if room then (if one then argument % 2 ^ 8 ∷ [] else []) else [])
by_puts true true two three more n argument c = refl
by_puts true false two three more n argument c = sym (append-nil c.output)
by_puts false true true three true n argument c = sym (append-nil c.output)
by_puts false true true three false n argument c = sym (append-nil c.output)
by_puts false true false true more n argument c = sym (append-nil c.output)
by_puts false true false false more n argument c = sym (append-nil c.output)
by_puts false false true three true n argument c = sym (append-nil c.output)
by_puts false false true three false n argument c = sym (append-nil c.output)
by_puts false false false true more n argument c = sym (append-nil c.output)
by_puts false false false false more n argument c = sym (append-nil c.output)

call_puts : (n number argument : ℕ) (c : ConsoleState) →
    (answered n number argument c).console.output ≡ c.output ++ (if nat_lt (length c.output) output_room then (if number == 1 then argument % 2 ^ 8 ∷ [] else []) else [])
call_puts n number argument c = by_puts (number == 1) (nat_lt (length c.output) output_room) (number == 2) (number == 3) (nat_lt c.place (length c.input)) n argument c

-- ---- classes

module _ (image m : Memory) (n : ℕ) (own held : Option Span) (c : ConsoleState) (h g : Hart) (i : Instr) (access : Option Access) (like : IsLike image m) (may : MayHold own held)
    (room : nat_lt (length c.output) output_room ≡ true) where
  -- of an outcome with this answer and this hart
  abbrev Told : SerialOutcome Hart ConsoleState → Type 0
  Told o = ((a : Access) → access ≡ Some a → Formed (length m.bytes) a) → o.answer ≡ Done access → g ≡ o.hart → Did image own h g i access

  give : (a : Option Access) → Done a ≡ Done access → Did image own h g i a → Did image own h g i access
  give a e d = let same : a ≡ access = cc in subst (λ (x : Option Access). Did image own h g i x) same d

  jump_told : (b : Bool) (rd target : ℕ) → action i h.x h.pc ≡ Jump rd target → (target % 4 == 0) ≡ b →
      Told (with_console c (if b then record { answer = Done None; hart = went_on h rd (next_pc h) target; stores = [] } else stopped_by h 4))
  jump_told true rd target is b form e s = give None e (did-jump rd target is (eqb-true (target % 4) 0 b) s)
  jump_told false rd target is b form e s = cc

  branch_told : (b : Bool) (target : ℕ) → action i h.x h.pc ≡ Branch true target → (target % 4 == 0) ≡ b →
      Told (with_console c (if b then record { answer = Done None; hart = went_on h 0 (next_pc h) target; stores = [] } else stopped_by h 4))
  branch_told true target is b form e s = give None e (did-branch true target is (λ t. eqb-true (target % 4) 0 b) s)
  branch_told false target is b form e s = cc

  read_told : (rd a : ℕ) (w : Width) (signed : Bool) (r : Result ℕ Fault) → action i h.x h.pc ≡ Read rd a w signed → loaded m a w ≡ r →
      Told (with_console c (read_by h rd a w signed r))
  read_told rd a w signed (Err f) is l form e s = cc
  read_told rd a w signed (Ok v) is l form e s =
      let same : access ≡ Some (Load w h.done a v) = cc in
      give (Some (Load w h.done a v)) e (did-read rd a v w signed is (readable_like image m a w v like l) (form (Load w h.done a v) same).1 s)

  write_told : (a : ℕ) (w : Width) (v : ℕ) (f : Option Fault) → action i h.x h.pc ≡ Write a w v → store_fault m a w ≡ f → Told (with_console c (written_by h a w v f))
  write_told a w v (Some f) is l form e s = cc
  write_told a w v None is l form e s = give (Some (Store w h.done a (cut w v))) e (did-write a v w is (writable_like image m a w like l) s)

  reserve_told : (rd a : ℕ) (w : Width) (o : AcquireRelease) (r : Result ℕ Fault) → action i h.x h.pc ≡ Reserve rd a w o → loaded m a w ≡ r →
      Told (with_console c (reserved_by h rd a w o r))
  reserve_told rd a w o (Err f) is l form e s = cc
  reserve_told rd a w o (Ok v) is l form e s =
      let same : access ≡ Some (LoadReserved w o h.done a v) = cc in
      give (Some (LoadReserved w o h.done a v)) e (did-reserve rd a v w o is (readable_like image m a w v like l) (form (LoadReserved w o h.done a v) same).2 s)

  conditional_told : (rd a : ℕ) (w : Width) (v : ℕ) (o : AcquireRelease) (holds : Bool) (f : Option Fault) → action i h.x h.pc ≡ Conditional rd a w v o →
      is_reserved held a w ≡ holds → store_fault m a w ≡ f → Told (with_console c (conditional_by h rd a w v o holds f))
  conditional_told rd a w v o holds (Some f) is r l form e s = cc
  conditional_told rd a w v o true None is r l form e s =
      give (Some (StoreConditional w o h.done a (Some (cut w v)))) e (did-succeed rd a v w o is (writable_like image m a w like l) (reserved_is own held a w may r) s)
  conditional_told rd a w v o false None is r l form e s = give (Some (StoreConditional w o h.done a None)) e (did-fail rd a v w o is (writable_like image m a w like l) s)

  exchange_told : (rd a : ℕ) (w : Width) (f : ℕ → ℕ) (o : AcquireRelease) (old : ℕ) (fault : Option Fault) → action i h.x h.pc ≡ Exchange rd a w f o →
      store_fault m a w ≡ fault → Told (with_console c (exchanged_by h rd a w f o old fault))
  exchange_told rd a w f o old (Some fault) is l form e s = cc
  exchange_told rd a w f o old None is l form e s =
      let same : access ≡ Some (Atomic w o h.done a old (f old)) = cc in
      give (Some (Atomic w o h.done a old (f old))) e (did-exchange rd a old w f o is (writable_like image m a w like l) (form (Atomic w o h.done a old (f old)) same).2 s)

  call_told : (b : Bool) → action i h.x h.pc ≡ Call → (reg h.x 17 == 0) ≡ b →
      Told (if b then record { answer = Stopped 1; hart = stopped_with h 1 (reg h.x 10); stores = []; console = c } else returned h (answered n (reg h.x 17) (reg h.x 10) c))
  call_told true is t form e s = cc
  call_told false is t form e s =
      give None e (did-call (answered n (reg h.x 17) (reg h.x 10) c).value is (λ z. let f : (reg h.x 17 == 0) ≡ true = eq-eqb (reg h.x 17) 0 z in cc) (answer_is n (reg h.x 17) (reg h.x 10) c room) s)

  told : (x : Action) → action i h.x h.pc ≡ x → Told (served x n h m c held)
  told (Put rd v) is form e s = give None e (did-put rd v is s)
  told (Jump rd target) is form e s = jump_told (target % 4 == 0) rd target is refl form e s
  told (Branch true target) is form e s = branch_told (target % 4 == 0) target is refl form e s
  told (Branch false target) is form e s = give None e (did-branch false target is (λ t. cc) s)
  told (Read rd a w signed) is form e s = read_told rd a w signed (loaded m a w) is refl form e s
  told (Write a w v) is form e s = write_told a w v (store_fault m a w) is refl form e s
  told (Order before after mode) is form e s = give (Some (Fence before after mode h.done)) e (did-order before after mode is s)
  told (Halt code) is form e s = cc
  told (Reserve rd a w o) is form e s = reserve_told rd a w o (loaded m a w) is refl form e s
  told (Conditional rd a w v o) is form e s = conditional_told rd a w v o (is_reserved held a w) (store_fault m a w) is refl refl form e s
  told (Exchange rd a w f o) is form e s = exchange_told rd a w f o (value_at m.bytes a w) (store_fault m a w) is refl form e s
  told Call is form e s = call_told (reg h.x 17 == 0) is refl form e s

instr_is : {A : Type 0} (o : Option Instr) (i : Instr) (b : A) (f : Instr → A) → o ≡ Some i → by_instr o b f ≡ f i
instr_is None i b f e = absurd (cc)
instr_is (Some j) i b f e = let same : j ≡ i = cc in ap f same

word_is : {A : Type 0} (w : Option ℕ) (i : Instr) (a b : A) (f : Instr → A) → instr_in w ≡ Some i → by_word w a b f ≡ f i
word_is None i a b f e = absurd (cc)
word_is (Some w) i a b f e = instr_is (instr_of w) i b f e

served_is : (image m : Memory) (n : ℕ) (h : Hart) (c : ConsoleState) (r : Option Span) (i : Instr) → IsLike image m → decoded image h.pc ≡ Some i →
    serial_stepped n h m c r ≡ served (action i h.x h.pc) n h m c r
unfolding serial_stepped decoded
served_is image m n h c r i like known =
    word_is (fetched m h.pc) i (with_console c (stopped_by h 3)) (with_console c (stopped_by h 2)) (λ j. served (action j h.x h.pc) n h m c r) (decoded_like image m h.pc like ∙ known)

form_of : (m : Memory) (n : ℕ) (h : Hart) (c : ConsoleState) (r : Option Span) → All (λ b. b < 2 ^ 8) m.bytes → (access : Option Access) →
    (serial_stepped n h m c r).answer ≡ Done access → (a : Access) → access ≡ Some a → Formed (length m.bytes) a
form_of m n h c r bytes access e a same =
    (has_forms m.code).serial_forms n h m.bytes c r a bytes (e ∙ ap (λ (x : Option Access). Done x) same)

pub step_did : (image : Memory) (n : ℕ) (own : Option Span) (c d : ConsoleState) (h g : Hart) (access : Option Access) (i : Instr) →
    IsStep image n own c d h g (Done access) → decoded image h.pc ≡ Some i →
    nat_lt (length c.output) output_room ≡ true → Did image own h g i access
step_did image n own c d h g access i s known room =
    let is = served_is image s.seen n h c s.held i s.like known in
    told image s.seen n own s.held c h g i access s.like s.may_hold room (action i h.x h.pc) refl
    (form_of s.seen n h c s.held s.bytes access s.answers)
    (ap (λ (o : SerialOutcome Hart ConsoleState). o.answer) (sym is) ∙ s.answers)
    (s.hart ∙ ap (λ (o : SerialOutcome Hart ConsoleState). o.hart) is)

-- ---- the console

called_puts : (b : Bool) (n : ℕ) (h : Hart) (c : ConsoleState) (access : Option Access) →
    (if b then record { answer = Stopped 1; hart = stopped_with h 1 (reg h.x 10); stores = []; console = c } else returned h (answered n (reg h.x 17) (reg h.x 10) c)).answer ≡ Done access →
    (if b then record { answer = Stopped 1; hart = stopped_with h 1 (reg h.x 10); stores = []; console = c } else returned h (answered n (reg h.x 17) (reg h.x 10) c)).console.output ≡ c.output ++ put_at c Ecall h.x
called_puts true n h c access e = absurd (cc)
called_puts false n h c access e = call_puts n (reg h.x 17) (reg h.x 10) c

instr_puts : (m : Memory) (n : ℕ) (h : Hart) (c : ConsoleState) (r : Option Span) (i : Instr) (access : Option Access) →
    (served (action i h.x h.pc) n h m c r).answer ≡ Done access →
    (served (action i h.x h.pc) n h m c r).console.output ≡ c.output ++ put_at c i h.x
instr_puts m n h c r Ecall access e = called_puts (reg h.x 17 == 0) n h c access e
instr_puts m n h c r _ access e = none_put (nat_lt (length c.output) output_room) c.output

pub step_puts : (image : Memory) (n : ℕ) (own : Option Span) (c d : ConsoleState) (h g : Hart) (access : Option Access) (i : Instr) →
    IsStep image n own c d h g (Done access) → decoded image h.pc ≡ Some i →
    d.output ≡ c.output ++ put_at c i h.x
step_puts image n own c d h g access i s known =
    let is = served_is image s.seen n h c s.held i s.like known in
    ap (λ (k : ConsoleState). k.output) s.console ∙ ap (λ (o : SerialOutcome Hart ConsoleState). o.console.output) is
    ∙ instr_puts s.seen n h c s.held i access (ap (λ (o : SerialOutcome Hart ConsoleState). o.answer) (sym is) ∙ s.answers)
