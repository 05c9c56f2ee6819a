-- Each plain store of an execution is that of a store instruction.
use Rattle.std.proofs.Common.{◌≡◌, ℕ, ◌+◌, ◌<◌, ◌≤◌, ◌==◌, ◌%◌, ◌⊎◌, Bool, true, false, List, [], ◌∷◌, ◌++◌, length, get_or, slice_index_or, Option, Some, None, Result, Ok, Err, unwrap_or, refl, sym, ap, subst, ◌∙◌, inl, inr, arith}
use Rattle.std.proofs.lemmas.Bool.{cases_eq, cases_lt}
use Rattle.std.proofs.Math.Seq.{get_or-append_seam}
use Rattle.std.proofs.lemmas.List.{get_or_append_left, get_or_past, length-append}
use Rattle.pages.specs.declared.access.Fault.{Fault}
use Rattle.pages.specs.declared.access.Width.{Width}
use Rattle.pages.specs.Memory.{Memory, fetched, loaded, store_fault, value_at}
use Rattle.rv64_decode.specs.declared.instruction.Instr.{Instr}
use Rattle.rv64_decode.specs.declared.instruction.Instr.TheVariants.{Ecall, Sb, Sh, Sw, Sd}
use Rattle.rv64_decode.specs.declared.ordering.AcquireRelease.{AcquireRelease}
use Rattle.rv64_decode.specs.Table.{instr_of}
use Rattle.round_schedule.specs.declared.access.Access.{Access}
use Rattle.round_schedule.specs.declared.access.Access.TheVariants.{Load, Store, LoadReserved, StoreConditional, Atomic, Fence}
use Rattle.round_schedule.specs.declared.access.Stepped.{Stepped}
use Rattle.round_schedule.specs.declared.access.Stepped.TheVariants.{Done, Stopped}
use Rattle.round_schedule.specs.declared.event.Event.{Event}
use Rattle.round_schedule.specs.declared.span.Span.{Span}
use Rattle.round_schedule.specs.Positions.{event, no_event}
use Rattle.round_schedule.specs.Schedule.{SerialOutcome}
use Rattle.hart_step.specs.declared.hart.Hart.{Hart}
use Rattle.hart_step.specs.DecodedCode.{decoded, instr_in}
use Rattle.hart_step.specs.Console.{ConsoleState}
use Rattle.hart_step.specs.Effect.{Action, Put, Jump, Branch, Read, Write, Order, Halt, Reserve, Conditional, Exchange, Call, action}
use Rattle.hart_step.specs.Registers.{reg}
use Rattle.hart_step.specs.SerialStep.{called, conditional_by, exchanged_by, is_reserved, reserved_by, serial_stepped, served, with_console}
use Rattle.hart_step.specs.Step.{branched, by_instr, by_word, jumped, read_by, stopped_by}
use Rattle.hart_step.proofs.ByWord.{of_test}
use Rattle.memory_order.specs.Operations.{is_plain_store}
use Rattle.memory_order.specs.WiderRule.{StoresAreOfStores, is_store_instruction}
use Rattle.execution.specs.Executions.{Executes, IsStep, Standing, begins, goes, no_access, stops}
use Rattle.execution.proofs.Answering.{decoded_like}
use Rattle.execution.proofs.Forming.{executes_even}

-- an answer that is no plain store
abbrev NoStore : Stepped → Type 0
NoStore y = (a : Access) → y ≡ Done (Some a) → is_plain_store a ≡ true → ⊥

other_access : (x : Access) → is_plain_store x ≡ false → NoStore (Done (Some x))
other_access x other a e plain = let same : x ≡ a = cc in absurd (cc (ap is_plain_store same, other, plain))

no_access_done : NoStore (Done None)
no_access_done a e plain = cc

no_store_stopped : (code : ℕ) → NoStore (Stopped code)
no_store_stopped code a e plain = cc

abbrev is_write : Action → Bool
is_write (Write a w v) = true
is_write _ = false

jumped_stores : (b : Bool) (h : Hart) (rd target : ℕ) → (target % 4 == 0) ≡ b → NoStore (jumped h rd target).answer
jumped_stores true h rd target e a d plain = cc
jumped_stores false h rd target e a d plain = cc

branched_stores : (taken : Bool) (h : Hart) (target : ℕ) → NoStore (branched h taken target).answer
branched_stores true h target = jumped_stores (target % 4 == 0) h 0 target refl
branched_stores false h target = no_access_done

read_stores : (h : Hart) (rd a : ℕ) (w : Width) (signed : Bool) (r : Result ℕ Fault) → NoStore (read_by h rd a w signed r).answer
read_stores h rd a w signed (Err f) = no_store_stopped _
read_stores h rd a w signed (Ok v) = other_access (Load w h.done a v) refl

reserved_stores : (h : Hart) (rd a : ℕ) (w : Width) (o : AcquireRelease) (r : Result ℕ Fault) → NoStore (reserved_by h rd a w o r).answer
reserved_stores h rd a w o (Err f) = no_store_stopped _
reserved_stores h rd a w o (Ok v) = other_access (LoadReserved w o h.done a v) refl

conditional_stores : (h : Hart) (rd a : ℕ) (w : Width) (v : ℕ) (o : AcquireRelease) (holds : Bool) (f : Option Fault) → NoStore (conditional_by h rd a w v o holds f).answer
conditional_stores h rd a w v o holds (Some f) = no_store_stopped _
conditional_stores h rd a w v o true None = other_access _ refl
conditional_stores h rd a w v o false None = other_access _ refl

exchanged_stores : (h : Hart) (rd a : ℕ) (w : Width) (f : ℕ → ℕ) (o : AcquireRelease) (old : ℕ) (g : Option Fault) → NoStore (exchanged_by h rd a w f o old g).answer
exchanged_stores h rd a w f o old (Some g) = no_store_stopped _
exchanged_stores h rd a w f o old None = other_access _ refl

called_stores : (n : ℕ) (h : Hart) (c : ConsoleState) → NoStore (called n h c).answer
called_stores n h c = of_test (λ (o : SerialOutcome Hart ConsoleState). NoStore o.answer) (reg h.x 17 == 0) _ _ (no_store_stopped 1) no_access_done

served_stores : (m : Memory) (a : Action) (n : ℕ) (h : Hart) (c : ConsoleState) (r : Option Span) → is_write a ≡ false → NoStore (served a n h m c r).answer
served_stores m (Put rd v) n h c r other = no_access_done
served_stores m (Jump rd t) n h c r other = jumped_stores (t % 4 == 0) h rd t refl
served_stores m (Branch b t) n h c r other = branched_stores b h t
served_stores m (Read rd a w s) n h c r other = read_stores h rd a w s (loaded m a w)
served_stores m (Write a w v) n h c r other = λ b e plain. cc
served_stores m (Order before after mode) n h c r other = other_access (Fence before after mode h.done) refl
served_stores m (Halt code) n h c r other = no_store_stopped code
served_stores m (Reserve rd a w o) n h c r other = reserved_stores h rd a w o (loaded m a w)
served_stores m (Conditional rd a w v o) n h c r other = conditional_stores h rd a w v o (is_reserved r a w) (store_fault m a w)
served_stores m (Exchange rd a w f o) n h c r other = exchanged_stores h rd a w f o (value_at m.bytes a w) (store_fault m a w)
served_stores m Call n h c r other = called_stores n h c

-- what writes is a store instruction
other_no_write : (i : Instr) (x : List ℕ) (pc : ℕ) → is_store_instruction i ≡ false → is_write (action i x pc) ≡ false
other_no_write (Sb rs1 rs2 imm) x pc e = cc
other_no_write (Sh rs1 rs2 imm) x pc e = cc
other_no_write (Sw rs1 rs2 imm) x pc e = cc
other_no_write (Sd rs1 rs2 imm) x pc e = cc
other_no_write _ x pc e = refl

-- ---- an instruction that was decoded

instr_is : {A : Type 0} (o : Option Instr) (i : Instr) (b : A) (f : Instr → A) → o ≡ Some i → by_instr o b f ≡ f i
instr_is None i b f e = cc
instr_is (Some j) i b f e = let same : j ≡ i = cc in ap f same

word_is : {A : Type 0} (w : Option ℕ) (i : Instr) (a b : A) (f : Instr → A) → instr_in w ≡ Some i → by_word w a b f ≡ f i
word_is None i a b f e = cc
word_is (Some w) i a b f e = instr_is (instr_of w) i b f e

stepped_stores : (m : Memory) (n : ℕ) (h : Hart) (c : ConsoleState) (r : Option Span) (i : Instr) → decoded m h.pc ≡ Some i → is_store_instruction i ≡ false → NoStore (serial_stepped n h m c r).answer
unfolding serial_stepped decoded
stepped_stores m n h c r i known other =
    subst (λ (o : SerialOutcome Hart ConsoleState). NoStore o.answer)
    (sym (word_is (fetched m h.pc) i (with_console c (stopped_by h 3)) (with_console c (stopped_by h 2)) (λ j. served (action j h.x h.pc) n h m c r) known))
    (served_stores m (action i h.x h.pc) n h c r (other_no_write i h.x h.pc other))

by_kind : (b : Bool) → (b ≡ false → ⊥) → b ≡ true
by_kind true other = refl
by_kind false other = absurd (other refl)

step_stores : (image : Memory) (n : ℕ) (own : Option Span) (c d : ConsoleState) (h g : Hart) (a : Option Access) (i : Instr) → IsStep image n own c d h g (Done a) → decoded image h.pc ≡ Some i →
    is_plain_store (unwrap_or a no_access) ≡ true → is_store_instruction i ≡ true
step_stores image n own c d h g None i s known plain = cc
step_stores image n own c d h g (Some a) i s known plain =
    by_kind (is_store_instruction i) (λ other. stepped_stores s.seen n h c s.held i (decoded_like image s.seen h.pc s.like ∙ known) other a s.answers plain)

-- ---- all of an execution

pub past_end : (t : List Event) (k : ℕ) → length t ≤ k → is_plain_store (event t k).access ≡ true → ⊥
unfolding no_event
past_end t k l plain = let e : event t k ≡ no_event = get_or_past t k no_event l in absurd (cc (ap (λ (x : Event). is_plain_store x.access) e, plain))

one_more : (is : List Instr) (t : List Event) (i : Instr) (e : Event) → length is ≡ length t → StoresAreOfStores is t → (is_plain_store e.access ≡ true → is_store_instruction i ≡ true) →
    StoresAreOfStores (is ++ i ∷ []) (t ++ e ∷ [])
one_more is t i e even each new k plain = elim (cases_lt k (length t)) [
  | inl low ↦
      subst (λ (j : Instr). is_store_instruction j ≡ true) (sym (get_or_append_left is (i ∷ []) Ecall k (omega (arith, low, even))))
      (each k (subst (λ (x : Event). is_plain_store x.access ≡ true) (get_or_append_left t (e ∷ []) no_event k low) plain))
  | inr high ↦ elim (cases_eq k (length t)) [
    | inl last ↦
        subst (λ (j : Instr). is_store_instruction j ≡ true) (sym (ap (λ (n : ℕ). slice_index_or (is ++ i ∷ []) n Ecall) (last ∙ sym even) ∙ get_or-append_seam is i [] Ecall))
        (new (subst (λ (x : Event). is_plain_store x.access ≡ true) (ap (λ (n : ℕ). event (t ++ e ∷ []) n) last ∙ get_or-append_seam t e [] no_event) plain))
    | inr other ↦ absurd (past_end (t ++ e ∷ []) k (simp length-append (omega (arith, high, other))) plain)
  ]
]

pub executes_stores : (image : Memory) (p q : Standing) → length p.instructions ≡ length p.events → Executes image p q → StoresAreOfStores p.instructions p.events → StoresAreOfStores q.instructions q.events
executes_stores image p q even (begins _) each = each
executes_stores image p q even (goes i _ s _ x g) each =
    subst (λ (is : List Instr). StoresAreOfStores is q.events) (sym g.instructions)
    (subst (λ (t : List Event). StoresAreOfStores (s.instructions ++ g.instruction ∷ []) t) (sym g.events)
    (one_more s.instructions s.events g.instruction g.event (executes_even image p s x even) (executes_stores image p s even x each)
    (λ plain. step_stores image q.round _ s.console q.console g.before g.after g.access g.instruction g.step g.decodes (subst (λ (a : Access). is_plain_store a ≡ true) g.event_of.access plain))))
executes_stores image p q even (stops i _ s _ x g) each =
    subst (λ (is : List Instr). StoresAreOfStores is q.events) (sym g.instructions)
    (subst (λ (t : List Event). StoresAreOfStores s.instructions t) (sym g.events) (executes_stores image p s even x each))
