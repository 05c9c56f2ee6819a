-- No instruction looks at its hart's count, and only the call for it at the round's number.
use Rattle.std.proofs.Common.{◌≡◌, ℕ, ◌%◌, ◌==◌, ◌&&◌, Bool, true, false, if◌then◌else◌, List, Option, Some, None, Result, Ok, Err, refl, subst, ap, true≢false}
use Rattle.std.specs.Prelude.{is_some}
use Rattle.pages.specs.declared.access.Fault.{Fault}
use Rattle.pages.specs.declared.access.Width.{Width}
use Rattle.pages.specs.Memory.{Memory, value_at, loaded, store_fault, fetched}
use Rattle.round_schedule.specs.declared.span.Span.{Span}
use Rattle.round_schedule.specs.Accesses.{is_full_fence}
use Rattle.round_schedule.specs.Schedule.{StepOutcome, SerialOutcome}
use Rattle.rv64_decode.specs.declared.instruction.Instr.{Instr}
use Rattle.rv64_decode.specs.declared.instruction.Instr.TheVariants.{Ecall}
use Rattle.rv64_decode.specs.declared.ordering.AcquireRelease.{AcquireRelease}
use Rattle.rv64_decode.specs.Table.{instr_of}
use Rattle.hart_step.specs.declared.hart.Hart.{Hart}
use Rattle.hart_step.specs.Console.{Answered, ConsoleState, all_ones, get_call, put_call}
use Rattle.hart_step.specs.Effect.{Action, Put, Jump, Branch, Read, Write, Order, Halt, Reserve, Conditional, Exchange, Call, action}
use Rattle.hart_step.specs.Registers.{reg}
use Rattle.hart_step.specs.SerialStep.{called, conditional_by, exchanged_by, is_reserved, reserved_by, returned, served, serial_stepped, with_console}
use Rattle.hart_step.specs.Step.{by_instr, by_word, performed, read_by, stepped, written_by}
use Rattle.serial_phase.specs.Forgetting.{CountsAreForgotten, SameOutcome, SameSerial, asks_number, is_ecall, uncounted}

abbrev Same : StepOutcome Hart → StepOutcome Hart → Type 0
Same o q = SameOutcome uncounted o q

abbrev SameServed : SerialOutcome Hart ConsoleState → SerialOutcome Hart ConsoleState → Type 0
SameServed o q = SameSerial uncounted o q

-- the same hart with another count
abbrev counted : Hart → ℕ → Hart
counted h d = record h { done = d }

both_tests : {A : Type 0} (R : A → A → Type 0) (c : Bool) (x u y v : A) → R x y → R u v → R (if c then x else u) (if c then y else v)
both_tests R true x u y v f g = f
both_tests R false x u y v f g = g

both_instrs : {A : Type 0} (R : A → A → Type 0) (i : Option Instr) (x y : A) (f g : Instr → A) → R x y → ((i : Instr) → R (f i) (g i)) → R (by_instr i x f) (by_instr i y g)
both_instrs R None x y f g a b = a
both_instrs R (Some i) x y f g a b = b i

both_words : {A : Type 0} (R : A → A → Type 0) (w : Option ℕ) (x u y v : A) (f g : Instr → A) → R x y → R u v → ((i : Instr) → R (f i) (g i)) → R (by_word w x u f) (by_word w y v g)
both_words R None x u y v f g a b c = a
both_words R (Some w) x u y v f g a b c = both_instrs R (instr_of w) u v f g b c

read_same : (h : Hart) (d rd a : ℕ) (w : Width) (signed : Bool) (r : Result ℕ Fault) → Same (read_by h rd a w signed r) (read_by (counted h d) rd a w signed r)
read_same h d rd a w signed (Err f) = record { answer = refl; hart = refl; stores = refl }
read_same h d rd a w signed (Ok v) = record { answer = refl; hart = refl; stores = refl }

written_same : (h : Hart) (d a : ℕ) (w : Width) (v : ℕ) (f : Option Fault) → Same (written_by h a w v f) (written_by (counted h d) a w v f)
written_same h d a w v (Some f) = record { answer = refl; hart = refl; stores = refl }
written_same h d a w v None = record { answer = refl; hart = refl; stores = refl }

reserved_same : (h : Hart) (d rd a : ℕ) (w : Width) (o : AcquireRelease) (r : Result ℕ Fault) → Same (reserved_by h rd a w o r) (reserved_by (counted h d) rd a w o r)
reserved_same h d rd a w o (Err f) = record { answer = refl; hart = refl; stores = refl }
reserved_same h d rd a w o (Ok v) = record { answer = refl; hart = refl; stores = refl }

conditional_same : (h : Hart) (d rd a : ℕ) (w : Width) (v : ℕ) (o : AcquireRelease) (holds : Bool) (f : Option Fault) →
    Same (conditional_by h rd a w v o holds f) (conditional_by (counted h d) rd a w v o holds f)
conditional_same h d rd a w v o holds (Some f) = record { answer = refl; hart = refl; stores = refl }
conditional_same h d rd a w v o true None = record { answer = refl; hart = refl; stores = refl }
conditional_same h d rd a w v o false None = record { answer = refl; hart = refl; stores = refl }

exchanged_same : (h : Hart) (d rd a : ℕ) (w : Width) (f : ℕ → ℕ) (o : AcquireRelease) (old : ℕ) (fault : Option Fault) →
    Same (exchanged_by h rd a w f o old fault) (exchanged_by (counted h d) rd a w f o old fault)
exchanged_same h d rd a w f o old (Some fault) = record { answer = refl; hart = refl; stores = refl }
exchanged_same h d rd a w f o old None = record { answer = refl; hart = refl; stores = refl }

performed_same : (h : Hart) (d : ℕ) (m : Memory) (a : Action) → Same (performed a h m) (performed a (counted h d) m)
performed_same h d m (Put rd v) = record { answer = refl; hart = refl; stores = refl }
performed_same h d m (Jump rd t) = both_tests Same (t % 4 == 0) _ _ _ _ (record { answer = refl; hart = refl; stores = refl }) (record { answer = refl; hart = refl; stores = refl })
performed_same h d m (Branch b t) =
    both_tests Same b _ _ _ _
    (both_tests Same (t % 4 == 0) _ _ _ _ (record { answer = refl; hart = refl; stores = refl }) (record { answer = refl; hart = refl; stores = refl }))
    (record { answer = refl; hart = refl; stores = refl })
performed_same h d m (Read rd a w s) = read_same h d rd a w s (loaded m a w)
performed_same h d m (Write a w v) = written_same h d a w v (store_fault m a w)
performed_same h d m (Order before after mode) =
    both_tests Same (is_full_fence before after mode) _ _ _ _ (record { answer = refl; hart = refl; stores = refl }) (record { answer = refl; hart = refl; stores = refl })
performed_same h d m (Halt code) = record { answer = refl; hart = refl; stores = refl }
performed_same h d m (Reserve rd a w o) = record { answer = refl; hart = refl; stores = refl }
performed_same h d m (Conditional rd a w v o) = record { answer = refl; hart = refl; stores = refl }
performed_same h d m (Exchange rd a w f o) = record { answer = refl; hart = refl; stores = refl }
performed_same h d m Call = record { answer = refl; hart = refl; stores = refl }

step_same : (h : Hart) (d : ℕ) (m : Memory) → Same (stepped h m) (stepped (counted h d) m)
unfolding stepped
step_same h d m =
    both_words Same (fetched m h.pc) _ _ _ _ _ _ (record { answer = refl; hart = refl; stores = refl }) (record { answer = refl; hart = refl; stores = refl })
    (λ i. performed_same h d m (action i h.x h.pc))

-- an outcome that leaves the console as it was
quiet : (c : ConsoleState) (o q : StepOutcome Hart) → Same o q → SameServed (with_console c o) (with_console c q)
quiet c o q s = record { answer = s.answer; hart = s.hart; stores = s.stores; console = refl }

back : (h : Hart) (d : ℕ) (r : Answered) → SameServed (returned h r) (returned (counted h d) r)
back h d r = record { answer = refl; hart = refl; stores = refl; console = refl }

-- the answer to a call by the tests of its number
abbrev answer_by : ℕ → Hart → ConsoleState → Bool → Bool → Bool → Answered
answer_by n h c one two three =
    if one then put_call (reg h.x 10) c else (if two then get_call c else (if three then record { value = n; console = c } else record { value = all_ones; console = c }))

answered_same : (n m : ℕ) (h : Hart) (d : ℕ) (c : ConsoleState) (one two three : Bool) → three ≡ false →
    SameServed (returned h (answer_by n h c one two three)) (returned (counted h d) (answer_by m h c one two three))
answered_same n m h d c true two three f = back h d _
answered_same n m h d c false true three f = back h d _
answered_same n m h d c false false true f = absurd (true≢false f)
answered_same n m h d c false false false f = back h d _

-- a call of another number than 3 is answered the same in every round
called_same : (n m : ℕ) (h : Hart) (d : ℕ) (c : ConsoleState) → (reg h.x 17 == 3) ≡ false → SameServed (called n h c) (called m (counted h d) c)
called_same n m h d c e =
    both_tests SameServed (reg h.x 17 == 0) _ _ _ _ (record { answer = refl; hart = refl; stores = refl; console = refl })
    (answered_same n m h d c (reg h.x 17 == 1) (reg h.x 17 == 2) (reg h.x 17 == 3) e)

is_call : Action → Bool
is_call Call = true
is_call _ = false

ecall_is_call : (i : Instr) (x : List ℕ) (pc : ℕ) → is_ecall i ≡ is_call (action i x pc)
unfolding is_call
ecall_is_call Ecall x pc = refl
ecall_is_call _ x pc = refl

served_same : (n m : ℕ) (h : Hart) (d : ℕ) (g : Memory) (c : ConsoleState) (r : Option Span) (a : Action) → (is_call a && (reg h.x 17 == 3)) ≡ false →
    SameServed (served a n h g c r) (served a m (counted h d) g c r)
unfolding is_call
served_same n m h d g c r (Order before after mode) u = record { answer = refl; hart = refl; stores = refl; console = refl }
served_same n m h d g c r (Reserve rd a w o) u = quiet c _ _ (reserved_same h d rd a w o (loaded g a w))
served_same n m h d g c r (Conditional rd a w v o) u = quiet c _ _ (conditional_same h d rd a w v o (is_reserved r a w) (store_fault g a w))
served_same n m h d g c r (Exchange rd a w f o) u = quiet c _ _ (exchanged_same h d rd a w f o (value_at g.bytes a w) (store_fault g a w))
served_same n m h d g c r Call u = called_same n m h d c u
served_same n m h d g c r (Put rd v) u = quiet c _ _ (performed_same h d g (Put rd v))
served_same n m h d g c r (Jump rd t) u = quiet c _ _ (performed_same h d g (Jump rd t))
served_same n m h d g c r (Branch b t) u = quiet c _ _ (performed_same h d g (Branch b t))
served_same n m h d g c r (Read rd a w s) u = quiet c _ _ (performed_same h d g (Read rd a w s))
served_same n m h d g c r (Write a w v) u = quiet c _ _ (performed_same h d g (Write a w v))
served_same n m h d g c r (Halt code) u = quiet c _ _ (performed_same h d g (Halt code))

-- what depends on a fetched word alone, where a test of the same word doesn't hold
by_words : {A : Type 0} (R : A → A → Type 0) (w : Option ℕ) (x u y v : A) (f g : Instr → A) (t : Instr → Bool) → R x y → R u v →
    ((i : Instr) → t i ≡ false → R (f i) (g i)) → by_word w false false t ≡ false → R (by_word w x u f) (by_word w y v g)
by_words R None x u y v f g t a b c e = a
by_words R (Some w) x u y v f g t a b c e = by_instrs (instr_of w) e
  where
    by_instrs : (i : Option Instr) → by_instr i false t ≡ false → R (by_instr i u f) (by_instr i v g)
    by_instrs None e = b
    by_instrs (Some i) e = c i e

serial_same : (n m : ℕ) (h : Hart) (d : ℕ) (g : Memory) (c : ConsoleState) (r : Option Span) →
    by_word (fetched g h.pc) false false (λ i. is_ecall i && (reg h.x 17 == 3)) ≡ false → SameServed (serial_stepped n h g c r) (serial_stepped m (counted h d) g c r)
unfolding serial_stepped
serial_same n m h d g c r e =
    by_words SameServed (fetched g h.pc) _ _ _ _ _ _ (λ i. is_ecall i && (reg h.x 17 == 3))
    (record { answer = refl; hart = refl; stores = refl; console = refl })
    (record { answer = refl; hart = refl; stores = refl; console = refl })
    (λ i u. served_same n m h d g c r (action i h.x h.pc)
    (subst (λ (x : Bool). (x && (reg h.x 17 == 3)) ≡ false) (ecall_is_call i h.x h.pc) u))
    e

pub counts_are_forgotten : CountsAreForgotten
counts_are_forgotten code = record {
  stopped = λ h g e. ap (λ (x : Hart). is_some x.stop) e;
  asking = λ h g bs e. ap (λ (x : Hart). asks_number code x bs) e;
  steps = λ h g bs e.
      subst (λ (x : Hart). Same (stepped h (record { bytes = bs; code = code })) (stepped (counted x g.done) (record { bytes = bs; code = code }))) e
      (step_same h g.done (record { bytes = bs; code = code }));
  serial_steps = λ n m h g bs c r e u.
      subst (λ (x : Hart). SameServed (serial_stepped n h (record { bytes = bs; code = code }) c r) (serial_stepped m (counted x g.done) (record { bytes = bs; code = code }) c r)) e
      (serial_same n m h g.done (record { bytes = bs; code = code }) c r u);
}
