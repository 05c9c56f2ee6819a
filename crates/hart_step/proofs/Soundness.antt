-- The instructions of RV64IMA are sound, and count what a hart does.
use Rattle.std.proofs.Common.{◌≡◌, ℕ, ◌==◌, ◌%◌, Bool, true, false, if◌then◌else◌, List, Option, Some, None, Result, Ok, Err, refl, ap, subst, ◌∙◌, arith}
use Rattle.std.proofs.lemmas.Bool.{and_parts}
use Rattle.std.proofs.lemmas.Bool.Decides.{nat_tests}
use Rattle.pages.specs.declared.access.Fault.{Fault}
use Rattle.pages.specs.declared.access.Width.{Width}
use Rattle.pages.specs.declared.access.Width.TheVariants.{W1, W2, W4, W8}
use Rattle.pages.specs.Memory.{IsBytes, Memory, value_at, width_bytes, loaded, store_fault, fetched}
use Rattle.pages.proofs.Accesses.{store_accepted}
use Rattle.round_schedule.specs.declared.access.Access.{Access}
use Rattle.round_schedule.specs.declared.access.Stepped.{Stepped}
use Rattle.round_schedule.specs.declared.access.Stepped.TheVariants.{Done, Waits, Stopped}
use Rattle.round_schedule.specs.declared.span.Span.{Span}
use Rattle.round_schedule.specs.Accesses.{is_full_fence}
use Rattle.round_schedule.specs.Schedule.{StepOutcome, SerialOutcome}
use Rattle.rv64_decode.specs.declared.ordering.AcquireRelease.{AcquireRelease}
use Rattle.hart_step.specs.declared.hart.Hart.{Hart}
use Rattle.hart_step.specs.Console.{ConsoleState}
use Rattle.hart_step.specs.Effect.{Action, Put, Jump, Branch, Read, Write, Order, Halt, Reserve, Conditional, Exchange, Call, action}
use Rattle.round_schedule.specs.Sound.{Agrees, IsParallel, HasReservation, counted, IsPlacedAt}
use Rattle.hart_step.specs.Laws.{IsSound, CountsDone}
use Rattle.hart_step.specs.Registers.{reg}
use Rattle.hart_step.specs.SerialStep.{with_console, reserved_by, is_reserved, conditional_by, exchanged_by, called, served, serial_stepped}
use Rattle.hart_step.specs.Step.{performed, stepped, stopped_by, put_to, jumped, read_by, written_by, fenced, waiting}
use Rattle.hart_step.proofs.Bytes.{loaded_within, match_load, match_reserved, match_store, match_success, match_failure, match_atomic, match_fence}
use Rattle.hart_step.proofs.ByWord.{of_test, of_word}

-- what holds of the access of an instruction that is done
abbrev OnDone : (Option Access → Type 0) → Stepped → Type 0
OnDone P (Done a) = P a
OnDone P Waits = Unit {0}
OnDone P (Stopped code) = Unit {0}

-- an outcome whose access agrees with its stores, and whose count is right
record Fair (h : Hart) (bs : List ℕ) (o : StepOutcome Hart) : Type 0 where
  agrees : IsBytes bs → OnDone (Agrees bs o.stores) o.answer
  counts : o.hart.done ≡ counted o.answer h.done
  places : IsPlacedAt o.answer h.done

-- and that the parallel phase may have
record FairParallel (h : Hart) (bs : List ℕ) (o : StepOutcome Hart) : Type 0 where
  fair : Fair h bs o
  parallel : OnDone IsParallel o.answer

stops : (h : Hart) (bs : List ℕ) (code : ℕ) → FairParallel h bs (stopped_by h code)
stops h bs code = record { fair = record { agrees = λ small. tt; counts = refl; places = tt }; parallel = tt }

puts : (h : Hart) (bs : List ℕ) (rd v pc : ℕ) → FairParallel h bs (put_to h rd v pc)
puts h bs rd v pc = record { fair = record { agrees = λ small. refl; counts = refl; places = tt }; parallel = tt }

waits : (h : Hart) (bs : List ℕ) → FairParallel h bs (waiting h)
waits h bs = record { fair = record { agrees = λ small. tt; counts = refl; places = tt }; parallel = tt }

jumps : (h : Hart) (bs : List ℕ) (rd target : ℕ) → FairParallel h bs (jumped h rd target)
jumps h bs rd target = of_test (FairParallel h bs) (target % 4 == 0) _ _ (puts h bs rd _ target) (stops h bs 4)

reads : (h : Hart) (m : Memory) (rd a : ℕ) (w : Width) (signed : Bool) (r : Result ℕ Fault) → loaded m a w ≡ r → FairParallel h m.bytes (read_by h rd a w signed r)
reads h m rd a w signed (Err f) e = record { fair = record { agrees = λ small. tt; counts = refl; places = tt }; parallel = tt }
reads h m rd a w signed (Ok v) e =
    let p = loaded_within m a w v e in
    record { fair = record { agrees = λ small. match_load m.bytes w h.done a v small p.0 p.1; counts = refl; places = refl }; parallel = refl }

writes : (h : Hart) (bs : List ℕ) (a : ℕ) (w : Width) (v : ℕ) (f : Option Fault) → FairParallel h bs (written_by h a w v f)
writes h bs a w v (Some f) = record { fair = record { agrees = λ small. tt; counts = refl; places = tt }; parallel = tt }
writes h bs a w v None = record { fair = record { agrees = λ small. match_store bs w h.done a v; counts = refl; places = refl }; parallel = refl }

fences : (h : Hart) (bs : List ℕ) (before after : _) (mode : _) → Fair h bs (fenced h before after mode)
fences h bs before after mode = record { agrees = λ small. match_fence bs before after mode h.done; counts = refl; places = refl }

orders : (h : Hart) (bs : List ℕ) (before after : _) (mode : _) (full : Bool) → is_full_fence before after mode ≡ full → FairParallel h bs (if full then waiting h else fenced h before after mode)
orders h bs before after mode true e = waits h bs
orders h bs before after mode false e = record { fair = fences h bs before after mode; parallel = e }

performed_fair : (h : Hart) (m : Memory) (a : Action) → FairParallel h m.bytes (performed a h m)
performed_fair h m (Put rd v) = puts h m.bytes rd v _
performed_fair h m (Jump rd t) = jumps h m.bytes rd t
performed_fair h m (Branch b t) = of_test (FairParallel h m.bytes) b _ _ (jumps h m.bytes 0 t) (puts h m.bytes 0 0 _)
performed_fair h m (Read rd a w s) = reads h m rd a w s (loaded m a w) refl
performed_fair h m (Write a w v) = writes h m.bytes a w v (store_fault m a w)
performed_fair h m (Order before after mode) = orders h m.bytes before after mode (is_full_fence before after mode) refl
performed_fair h m (Halt code) = stops h m.bytes code
performed_fair h m (Reserve rd a w ordering) = waits h m.bytes
performed_fair h m (Conditional rd a w v ordering) = waits h m.bytes
performed_fair h m (Exchange rd a w f ordering) = waits h m.bytes
performed_fair h m Call = waits h m.bytes

step_fair : (h : Hart) (m : Memory) → FairParallel h m.bytes (stepped h m)
unfolding stepped
step_fair h m = of_word (FairParallel h m.bytes) (fetched m h.pc) _ _ _ (stops h m.bytes 3) (stops h m.bytes 2) (λ i. performed_fair h m (action i h.x h.pc))

-- the same of the serial phase
record FairSerial (r : Option Span) (h : Hart) (bs : List ℕ) (o : SerialOutcome Hart ConsoleState) : Type 0 where
  agrees : IsBytes bs → OnDone (Agrees bs o.stores) o.answer
  counts : o.hart.done ≡ counted o.answer h.done
  places : IsPlacedAt o.answer h.done
  reserved : OnDone (HasReservation r) o.answer

consoled : (r : Option Span) (h : Hart) (bs : List ℕ) (c : ConsoleState) (o : StepOutcome Hart) → Fair h bs o → OnDone (HasReservation r) o.answer → FairSerial r h bs (with_console c o)
consoled r h bs c o f e = record { agrees = f.agrees; counts = f.counts; places = f.places; reserved = e }

-- an action of the parallel phase is no store-conditional
plain_reserved : (r : Option Span) (h : Hart) (m : Memory) (a : Action) → OnDone (HasReservation r) (performed a h m).answer
plain_reserved r h m (Put rd v) = tt
plain_reserved r h m (Jump rd t) = of_test (λ (o : StepOutcome Hart). OnDone (HasReservation r) o.answer) (t % 4 == 0) _ _ tt tt
plain_reserved r h m (Branch b t) = of_test (λ (o : StepOutcome Hart). OnDone (HasReservation r) o.answer) b _ _ (of_test (λ (o : StepOutcome Hart). OnDone (HasReservation r) o.answer) (t % 4 == 0) _ _ tt tt) tt
plain_reserved r h m (Read rd a w s) = by_result (loaded m a w)
  where
    by_result : (o : Result ℕ Fault) → OnDone (HasReservation r) (read_by h rd a w s o).answer
    by_result (Err f) = tt
    by_result (Ok v) = tt
plain_reserved r h m (Write a w v) = by_fault (store_fault m a w)
  where
    by_fault : (o : Option Fault) → OnDone (HasReservation r) (written_by h a w v o).answer
    by_fault (Some f) = tt
    by_fault None = tt
plain_reserved r h m (Order before after mode) = of_test (λ (o : StepOutcome Hart). OnDone (HasReservation r) o.answer) (is_full_fence before after mode) _ _ tt tt
plain_reserved r h m (Halt code) = tt
plain_reserved r h m (Reserve rd a w ordering) = tt
plain_reserved r h m (Conditional rd a w v ordering) = tt
plain_reserved r h m (Exchange rd a w f ordering) = tt
plain_reserved r h m Call = tt

plains : (r : Option Span) (h : Hart) (m : Memory) (c : ConsoleState) (a : Action) → FairSerial r h m.bytes (with_console c (performed a h m))
plains r h m c a = consoled r h m.bytes c _ (performed_fair h m a).fair (plain_reserved r h m a)

reserves : (r : Option Span) (h : Hart) (m : Memory) (c : ConsoleState) (rd a : ℕ) (w : Width) (ordering : AcquireRelease) (l : Result ℕ Fault) → loaded m a w ≡ l → FairSerial r h m.bytes (with_console c (reserved_by h rd a w ordering l))
reserves r h m c rd a w ordering (Err f) e = record { agrees = λ small. tt; counts = refl; places = tt; reserved = tt }
reserves r h m c rd a w ordering (Ok v) e =
    let p = loaded_within m a w v e in
    record { agrees = λ small. match_reserved m.bytes w h.done a ordering v small p.0 p.1; counts = refl; places = refl; reserved = tt }

same_width : (v w : Width) → (width_bytes v == width_bytes w) ≡ true → v ≡ w
same_width W1 W1 e = refl
same_width W2 W2 e = refl
same_width W4 W4 e = refl
same_width W8 W8 e = refl
same_width _ _ e = absurd (cc e)

holds : (r : Option Span) (a : ℕ) (w : Width) → is_reserved r a w ≡ true → r ≡ Some (record { address = a; width = w })
holds None a w e = absurd (cc e)
holds (Some s) a w e =
    let p = and_parts (s.address == a) (width_bytes s.width == width_bytes w) e in
    let t : (s.address == a) ≡ true = p.0 in
    let d : s.address ≡ a = grind (arith, nat_tests) in
    let f : s.width ≡ w = same_width s.width w p.1 in
    ap (λ (x : ℕ). Some (record { address = x; width = s.width })) d ∙ ap (λ (x : Width). Some (record { address = a; width = x })) f

conditionals : (r : Option Span) (h : Hart) (bs : List ℕ) (c : ConsoleState) (rd a : ℕ) (w : Width) (v : ℕ) (ordering : AcquireRelease) (t : Bool) (f : Option Fault) → is_reserved r a w ≡ t → FairSerial r h bs (with_console c (conditional_by h rd a w v ordering t f))
conditionals r h bs c rd a w v ordering t (Some f) e = record { agrees = λ small. tt; counts = refl; places = tt; reserved = tt }
conditionals r h bs c rd a w v ordering true None e = record { agrees = λ small. match_success bs w h.done a ordering v; counts = refl; places = refl; reserved = holds r a w e }
conditionals r h bs c rd a w v ordering false None e = record { agrees = λ small. match_failure bs w h.done a ordering; counts = refl; places = refl; reserved = tt }

exchanges : (r : Option Span) (h : Hart) (m : Memory) (c : ConsoleState) (rd a : ℕ) (w : Width) (f : ℕ → ℕ) (ordering : AcquireRelease) (fault : Option Fault) → store_fault m a w ≡ fault → FairSerial r h m.bytes (with_console c (exchanged_by h rd a w f ordering (value_at m.bytes a w) fault))
exchanges r h m c rd a w f ordering (Some fault) e = record { agrees = λ small. tt; counts = refl; places = tt; reserved = tt }
exchanges r h m c rd a w f ordering None e =
    record { agrees = λ small. match_atomic m.bytes w h.done a ordering (value_at m.bytes a w) (f (value_at m.bytes a w)) small (store_accepted m a w e).1 refl; counts = refl; places = refl; reserved = tt }

calls : (r : Option Span) (n : ℕ) (h : Hart) (bs : List ℕ) (c : ConsoleState) → FairSerial r h bs (called n h c)
calls r n h bs c = of_test (FairSerial r h bs) (reg h.x 17 == 0) _ _ (record { agrees = λ small. tt; counts = refl; places = tt; reserved = tt }) (record { agrees = λ small. refl; counts = refl; places = tt; reserved = tt })

served_fair : (r : Option Span) (n : ℕ) (h : Hart) (m : Memory) (c : ConsoleState) (a : Action) → FairSerial r h m.bytes (served a n h m c r)
served_fair r n h m c (Order before after mode) = consoled r h m.bytes c _ (fences h m.bytes before after mode) tt
served_fair r n h m c (Reserve rd a w ordering) = reserves r h m c rd a w ordering (loaded m a w) refl
served_fair r n h m c (Conditional rd a w v ordering) = conditionals r h m.bytes c rd a w v ordering (is_reserved r a w) (store_fault m a w) refl
served_fair r n h m c (Exchange rd a w f ordering) = exchanges r h m c rd a w f ordering (store_fault m a w) refl
served_fair r n h m c Call = calls r n h m.bytes c
served_fair r n h m c (Put rd v) = plains r h m c (Put rd v)
served_fair r n h m c (Jump rd t) = plains r h m c (Jump rd t)
served_fair r n h m c (Branch b t) = plains r h m c (Branch b t)
served_fair r n h m c (Read rd a w s) = plains r h m c (Read rd a w s)
served_fair r n h m c (Write a w v) = plains r h m c (Write a w v)
served_fair r n h m c (Halt code) = plains r h m c (Halt code)

serial_fair : (r : Option Span) (n : ℕ) (h : Hart) (m : Memory) (c : ConsoleState) → FairSerial r h m.bytes (serial_stepped n h m c r)
unfolding serial_stepped
serial_fair r n h m c = of_word (FairSerial r h m.bytes) (fetched m h.pc) _ _ _ (plains r h m c (Halt 3)) (plains r h m c (Halt 2)) (λ i. served_fair r n h m c (action i h.x h.pc))

pub sound : IsSound
sound code = record {
  step_agrees = λ h bs a small e. subst (OnDone (Agrees bs _)) e ((step_fair h (record { bytes = bs; code = code })).fair.agrees small);
  step_parallel = λ h bs a e. subst (OnDone IsParallel) e (step_fair h (record { bytes = bs; code = code })).parallel;
  serial_agrees = λ n h bs c r a small e. subst (OnDone (Agrees bs _)) e ((serial_fair r n h (record { bytes = bs; code = code }) c).agrees small);
  serial_reserved = λ n h bs c r a e. subst (OnDone (HasReservation r)) e (serial_fair r n h (record { bytes = bs; code = code }) c).reserved;
}

pub counts_done : CountsDone
counts_done code = record {
  step_counts = λ h bs. (step_fair h (record { bytes = bs; code = code })).fair.counts;
  step_places = λ h bs. (step_fair h (record { bytes = bs; code = code })).fair.places;
  serial_counts = λ n h bs c r. (serial_fair r n h (record { bytes = bs; code = code }) c).counts;
  serial_places = λ n h bs c r. (serial_fair r n h (record { bytes = bs; code = code }) c).places;
}
