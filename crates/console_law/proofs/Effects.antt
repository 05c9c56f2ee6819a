-- What one instruction leaves of the console and of the number of registers.
use Rattle.std.proofs.Common.{◌≡◌, ℕ, ◌%◌, ◌^◌, ◌==◌, ◌<◌, Bool, true, false, if◌then◌else◌, nat_lt, List, [], ◌∷◌, ◌++◌, length, Option, Some, None, Result, Ok, Err, refl, ap, ◌∙◌, subst, true≢false, arith, length-set, get_or-set_same}
use Rattle.std.proofs.lemmas.Bool.{eqb-true, ne_eqb}
use Rattle.pages.specs.declared.access.Fault.{Fault}
use Rattle.pages.specs.declared.access.Width.{Width}
use Rattle.pages.specs.Memory.{Memory, value_at, loaded, store_fault, fetched}
use Rattle.round_schedule.specs.declared.access.Stepped.TheVariants.{Stopped}
use Rattle.round_schedule.specs.declared.span.Span.{Span}
use Rattle.round_schedule.specs.Accesses.{is_full_fence}
use Rattle.round_schedule.specs.Schedule.{StepOutcome, SerialOutcome}
use Rattle.rv64_decode.specs.declared.instruction.Instr.{Instr}
use Rattle.rv64_decode.specs.declared.instruction.Instr.TheVariants.{Ecall}
use Rattle.rv64_decode.specs.declared.ordering.AcquireRelease.{AcquireRelease}
use Rattle.rv64_decode.specs.Table.{instr_of}
use Rattle.hart_step.specs.declared.hart.Hart.{Hart}
use Rattle.hart_step.specs.Console.{Answered, ConsoleState, all_ones, get_call, output_room, put_call}
use Rattle.hart_step.specs.Effect.{Action, Put, Jump, Branch, Read, Write, Order, Halt, Reserve, Conditional, Exchange, Call, action}
use Rattle.hart_step.specs.Registers.{reg, set_reg}
use Rattle.hart_step.specs.SerialStep.{called, conditional_by, exchanged_by, is_reserved, reserved_by, returned, served, serial_stepped, with_console}
use Rattle.hart_step.specs.Step.{by_instr, by_word, next_pc, performed, read_by, stepped, stopped_by, stopped_with, written_by}
use Rattle.console_law.specs.Calls.{ConsoleCall, PutByte, GetByte, call_of, is_ecall}
use Rattle.console_law.proofs.Closed.{AreAnswered, after_calls}

of_test : {A : Type 0} (P : A → Type 0) (t : Bool) (x y : A) → P x → P y → P (if t then x else y)
of_test P true x y p q = p
of_test P false x y p q = q

-- what holds of two things that go by one word, case by case
both_instr : {A B : Type 0} (P : A → B → Type 0) (i : Option Instr) (x : A) (y : B) (f : Instr → A) (g : Instr → B) →
    P x y → ((j : Instr) → P (f j) (g j)) → P (by_instr i x f) (by_instr i y g)
both_instr P None x y f g p q = p
both_instr P (Some j) x y f g p q = q j

both_word : {A B : Type 0} (P : A → B → Type 0) (v : Option ℕ) (x z : A) (y : B) (f : Instr → A) (g : Instr → B) →
    P x y → P z y → ((j : Instr) → P (f j) (g j)) → P (by_word v x z f) (by_word v y y g)
both_word P None x z y f g o p q = o
both_word P (Some v) x z y f g o p q = both_instr P (instr_of v) z y f g p q

-- ---- each instruction keeps the number of registers

set_keeps : (x : List ℕ) (r v : ℕ) → length (set_reg x r v) ≡ length x
set_keeps x r v = of_test (λ (y : List ℕ). length y ≡ length x) (r == 0) _ _ refl (length-set x r v)

abbrev Keeps : Hart → StepOutcome Hart → Type 0
Keeps h o = length o.hart.x ≡ length h.x

read_keeps : (h : Hart) (rd a : ℕ) (w : Width) (signed : Bool) (r : Result ℕ Fault) → Keeps h (read_by h rd a w signed r)
read_keeps h rd a w signed (Err f) = refl
read_keeps h rd a w signed (Ok v) = set_keeps h.x rd _

written_keeps : (h : Hart) (a : ℕ) (w : Width) (v : ℕ) (f : Option Fault) → Keeps h (written_by h a w v f)
written_keeps h a w v (Some f) = refl
written_keeps h a w v None = set_keeps h.x 0 0

reserved_keeps : (h : Hart) (rd a : ℕ) (w : Width) (ordering : AcquireRelease) (r : Result ℕ Fault) → Keeps h (reserved_by h rd a w ordering r)
reserved_keeps h rd a w ordering (Err f) = refl
reserved_keeps h rd a w ordering (Ok v) = set_keeps h.x rd _

conditional_keeps : (h : Hart) (rd a : ℕ) (w : Width) (v : ℕ) (ordering : AcquireRelease) (holds : Bool) (f : Option Fault) → Keeps h (conditional_by h rd a w v ordering holds f)
conditional_keeps h rd a w v ordering holds (Some f) = refl
conditional_keeps h rd a w v ordering true None = set_keeps h.x rd 0
conditional_keeps h rd a w v ordering false None = set_keeps h.x rd 1

exchanged_keeps : (h : Hart) (rd a : ℕ) (w : Width) (f : ℕ → ℕ) (ordering : AcquireRelease) (old : ℕ) (fault : Option Fault) → Keeps h (exchanged_by h rd a w f ordering old fault)
exchanged_keeps h rd a w f ordering old (Some fault) = refl
exchanged_keeps h rd a w f ordering old None = set_keeps h.x rd _

performed_keeps : (h : Hart) (m : Memory) (a : Action) → Keeps h (performed a h m)
performed_keeps h m (Put rd v) = set_keeps h.x rd v
performed_keeps h m (Jump rd t) = of_test (Keeps h) (t % 4 == 0) _ _ (set_keeps h.x rd _) refl
performed_keeps h m (Branch b t) = of_test (Keeps h) b _ _ (of_test (Keeps h) (t % 4 == 0) _ _ (set_keeps h.x 0 (next_pc h)) refl) (set_keeps h.x 0 0)
performed_keeps h m (Read rd a w s) = read_keeps h rd a w s (loaded m a w)
performed_keeps h m (Write a w v) = written_keeps h a w v (store_fault m a w)
performed_keeps h m (Order before after mode) = of_test (Keeps h) (is_full_fence before after mode) _ _ refl (set_keeps h.x 0 0)
performed_keeps h m (Halt code) = refl
performed_keeps h m (Reserve rd a w ordering) = refl
performed_keeps h m (Conditional rd a w v ordering) = refl
performed_keeps h m (Exchange rd a w f ordering) = refl
performed_keeps h m Call = refl

pub step_keeps : (h : Hart) (m : Memory) → Keeps h (stepped h m)
unfolding stepped
step_keeps h m = both_word (λ (o : StepOutcome Hart) (u : Bool). Keeps h o) (fetched m h.pc) _ _ true _ (λ i. true) refl refl (λ i. performed_keeps h m (action i h.x h.pc))

-- ---- what it leaves of the console, in the serial phase

-- the console is that after these calls, with their answers
pub record Follows (h : Hart) (c : ConsoleState) (cs : List ConsoleCall) (o : SerialOutcome Hart ConsoleState) : Type 0 where
  pub console : o.console ≡ after_calls cs c
  pub answers : length h.x ≡ 32 → AreAnswered cs c
  pub registers : length o.hart.x ≡ length h.x

silent : (h : Hart) (c : ConsoleState) (o : StepOutcome Hart) → Keeps h o → Follows h c [] (with_console c o)
silent h c o k = record { console = refl; answers = λ l. tt; registers = k }

-- a put call by its test
abbrev put_by : ℕ → ConsoleState → Bool → Answered
put_by v c t = if t then record { value = 0; console = record c { output = c.output ++ (v % 2 ^ 8) ∷ [] } } else record { value = all_ones; console = c }

put_console : (v answer : ℕ) (c : ConsoleState) → (put_call v c).console ≡ after_calls (PutByte (v % 2 ^ 8) answer ∷ []) c
put_console v answer c = by_test (nat_lt (length c.output) output_room)
  where
    by_test : (t : Bool) → (put_by v c t).console ≡ (if t then record c { output = c.output ++ (v % 2 ^ 8) ∷ [] } else c)
    by_test true = refl
    by_test false = refl

put_value : (v : ℕ) (c : ConsoleState) → (put_call v c).value ≡ (if nat_lt (length c.output) output_room then 0 else all_ones)
put_value v c = by_test (nat_lt (length c.output) output_room)
  where
    by_test : (t : Bool) → (put_by v c t).value ≡ (if t then 0 else all_ones)
    by_test true = refl
    by_test false = refl

-- x10 after a call is its answer
answer_read : (x y : List ℕ) (v : ℕ) → y ≡ set_reg x 10 v → length x ≡ 32 → reg y 10 ≡ v
answer_read x y v e l = ap (λ (z : List ℕ). reg z 10) e ∙ get_or-set_same x 10 v 0 (omega (arith, l))

module _ (n : ℕ) (h g : Hart) (c : ConsoleState) where
  -- an ECALL by the tests of its number for 0, 1, 2 and 3
  abbrev outcome : Bool → Bool → Bool → Bool → SerialOutcome Hart ConsoleState
  outcome zeroth one two three =
      if zeroth
      then record { answer = Stopped 1; hart = stopped_with h 1 (reg h.x 10); stores = []; console = c }
      else returned h (if one then put_call (reg h.x 10) c else (if two then get_call c else (if three then record { value = n; console = c } else record { value = all_ones; console = c })))

  abbrev calls : Bool → Bool → List ConsoleCall
  calls one two = if one then PutByte (reg h.x 10 % 2 ^ 8) (reg g.x 10) ∷ [] else (if two then GetByte (reg g.x 10) ∷ [] else [])

  by_number : (zeroth one two three : Bool) → (zeroth ≡ true → one ≡ false) → (zeroth ≡ true → two ≡ false) → g ≡ (outcome zeroth one two three).hart →
      Follows h c (calls one two) (outcome zeroth one two three)
  by_number true true two three a b e = absurd (true≢false (a refl))
  by_number true false true three a b e = absurd (true≢false (b refl))
  by_number true false false three a b e = record { console = refl; answers = λ l. tt; registers = refl }
  by_number false true two three a b e = record {
    console = put_console (reg h.x 10) (reg g.x 10) c;
    answers = λ l. (answer_read h.x g.x (put_call (reg h.x 10) c).value (ap (λ (k : Hart). k.x) e) l ∙ put_value (reg h.x 10) c, tt);
    registers = set_keeps h.x 10 (put_call (reg h.x 10) c).value;
  }
  by_number false false true three a b e = record {
    console = refl;
    answers = λ l. (answer_read h.x g.x (get_call c).value (ap (λ (k : Hart). k.x) e) l, tt);
    registers = set_keeps h.x 10 (get_call c).value;
  }
  by_number false false false true a b e = record { console = refl; answers = λ l. tt; registers = set_keeps h.x 10 n }
  by_number false false false false a b e = record { console = refl; answers = λ l. tt; registers = set_keeps h.x 10 all_ones }

  other_number : (number k : ℕ) → 0 < k → (number == 0) ≡ true → (number == k) ≡ false
  other_number number k l z = ne_eqb number k (λ e. omega (arith, eqb-true number 0 z, e, l))

  called_follows : g ≡ (called n h c).hart → Follows h c (call_of h g) (called n h c)
  called_follows e =
      by_number (reg h.x 17 == 0) (reg h.x 17 == 1) (reg h.x 17 == 2) (reg h.x 17 == 3)
      (other_number (reg h.x 17) 1 (omega arith)) (other_number (reg h.x 17) 2 (omega arith)) e

  is_call : Action → Bool
  is_call Call = true
  is_call _ = false

  served_follows : (m : Memory) (r : Option Span) (a : Action) → g ≡ (served a n h m c r).hart →
      Follows h c (if is_call a then call_of h g else []) (served a n h m c r)
  unfolding is_call
  served_follows m r (Order before after mode) e = silent h c _ (set_keeps h.x 0 0)
  served_follows m r (Reserve rd a w ordering) e = silent h c _ (reserved_keeps h rd a w ordering (loaded m a w))
  served_follows m r (Conditional rd a w v ordering) e = silent h c _ (conditional_keeps h rd a w v ordering (is_reserved r a w) (store_fault m a w))
  served_follows m r (Exchange rd a w f ordering) e = silent h c _ (exchanged_keeps h rd a w f ordering (value_at m.bytes a w) (store_fault m a w))
  served_follows m r Call e = called_follows e
  served_follows m r (Put rd v) e = silent h c _ (performed_keeps h m (Put rd v))
  served_follows m r (Jump rd t) e = silent h c _ (performed_keeps h m (Jump rd t))
  served_follows m r (Branch b t) e = silent h c _ (performed_keeps h m (Branch b t))
  served_follows m r (Read rd a w s) e = silent h c _ (performed_keeps h m (Read rd a w s))
  served_follows m r (Write a w v) e = silent h c _ (performed_keeps h m (Write a w v))
  served_follows m r (Halt code) e = silent h c _ (performed_keeps h m (Halt code))

  ecall_is_call : (i : Instr) (x : List ℕ) (pc : ℕ) → is_call (action i x pc) ≡ is_ecall i
  unfolding is_call
  ecall_is_call Ecall x pc = refl
  ecall_is_call _ x pc = refl

  pub serial_follows : (m : Memory) (r : Option Span) → g ≡ (serial_stepped n h m c r).hart →
      Follows h c (by_word (fetched m h.pc) [] [] (λ i. if is_ecall i then call_of h g else [])) (serial_stepped n h m c r)
  unfolding serial_stepped
  serial_follows m r =
      both_word (λ (o : SerialOutcome Hart ConsoleState) (cs : List ConsoleCall). g ≡ o.hart → Follows h c cs o) (fetched m h.pc)
      (with_console c (stopped_by h 3)) (with_console c (stopped_by h 2)) []
      (λ i. served (action i h.x h.pc) n h m c r) (λ i. if is_ecall i then call_of h g else [])
      (λ e. silent h c _ refl) (λ e. silent h c _ refl)
      (λ i e. subst (λ (t : Bool). Follows h c (if t then call_of h g else []) (served (action i h.x h.pc) n h m c r)) (ecall_is_call i h.x h.pc)
      (served_follows m r (action i h.x h.pc) e))
