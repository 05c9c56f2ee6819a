-- What was done is a step of an execution.
use Rattle.std.proofs.Common.{◌≡◌, ◌≢◌, ℕ, ◌<◌, ◌≤◌, List, [], ◌∷◌, ◌++◌, arith, get_or, length, slice_index_or, slice_set, unwrap_or, MatchOption, Option, Some, None, ◌∙◌, ap, inl, inr, refl, subst, sym}
use Rattle.std.proofs.lemmas.List.{append_cancel_left, length-append}
use Rattle.pages.specs.Memory.{Memory}
use Rattle.rv64_decode.specs.declared.instruction.Instr.{Instr}
use Rattle.round_schedule.specs.declared.access.Access.{Access}
use Rattle.round_schedule.specs.declared.access.Stepped.{Stepped}
use Rattle.round_schedule.specs.declared.access.Stepped.TheVariants.{Done, Stopped, Waits}
use Rattle.round_schedule.specs.declared.event.Event.{Event}
use Rattle.round_schedule.specs.declared.span.Span.{Span}
use Rattle.round_schedule.specs.Accesses.{read_of}
use Rattle.hart_step.specs.declared.hart.Hart.{Hart}
use Rattle.hart_step.specs.DecodedCode.{decoded}
use Rattle.hart_step.specs.Console.{ConsoleState}
use Rattle.execution.specs.Executions.{Goes, IsLike, IsStep, Standing, Stops, Takes, no_access, own_held}
use Rattle.execution.specs.declared.step.ScriptedStep.{ScriptedStep}
use Rattle.execution.specs.Progressing.{IsRead, ReadsOther, step_event}
use Rattle.execution.proofs.Answering.{decoded_like, step_was_decoded}

pub at_none : {A : Type 0} (o : Option A) (P : Type 0) (Q : A → Type 0) → o ≡ None → MatchOption o P Q → P
at_none o P Q none h = subst (λ x. MatchOption x P Q) none h

pub at_some : {A : Type 0} (o : Option A) (a : A) (P : Type 0) (Q : A → Type 0) → o ≡ Some a → MatchOption o P Q → Q a
at_some o a P Q some h = subst (λ x. MatchOption x P Q) some h

pub same_standing : (p q : Standing) → q.harts ≡ p.harts → q.console ≡ p.console → q.round ≡ p.round → q.instructions ≡ p.instructions → q.events ≡ p.events → q ≡ p
same_standing p q harts console round instructions events =
    ap (λ (x : List Hart). record q { harts = x }) harts
    ∙ ap (λ (x : ConsoleState). record q { harts = p.harts; console = x }) console
    ∙ ap (λ (x : ℕ). record q { harts = p.harts; console = p.console; round = x }) round
    ∙ ap (λ (x : List Instr). record p { instructions = x; events = q.events }) instructions
    ∙ ap (λ (x : List Event). record p { events = x }) events

-- two lists that end alike after the same ones
last_same : (t : List Event) (e f : Event) → t ++ e ∷ [] ≡ t ++ f ∷ [] → e ≡ f
last_same t e f same = ap (λ (u : List Event). get_or u 0 e) (append_cancel_left t (e ∷ []) (f ∷ []) same)

read_by : (a : Option Access) (answer : Stepped) (v : ℕ) → answer ≡ Done a → read_of (unwrap_or a no_access) ≡ Some v → IsRead answer v
read_by None answer v done is = absurd cc
read_by (Some a) answer v done is = (a, done, is)

pub one_goes : (image m : Memory) (i : ℕ) (s : ScriptedStep) (p q : Standing) (before after : Hart) (instruction : Instr) (a : Option Access) (answer : Stepped) (own : Option Span) (next : Option Instr) (e : Event) →
    IsLike image m → i ≡ s.hart → i < length p.harts → before ≡ slice_index_or p.harts i before → p.round ≤ q.round → next ≡ decoded m before.pc → next ≡ Some instruction →
    own ≡ own_held i p.events → answer ≡ Done a → IsStep image q.round own p.console q.console before after answer → q.harts ≡ slice_set p.harts i after →
    q.instructions ≡ p.instructions ++ instruction ∷ [] → e ≡ step_event s.hart a → q.events ≡ p.events ++ e ∷ [] → q.round ≡ s.round → ((v : ℕ) → IsRead answer v → s.number ≡ Some v) → Takes image s p q
one_goes image m i s p q before after instruction a answer own next e like same within there later decodes some holds done step harts instructions event events round number = record {
  round = round;
  step = inl (subst (λ (k : ℕ). Goes image k p q) same (record {
    before = before;
    within = within;
    there = there;
    after = after;
    later = later;
    instruction = instruction;
    access = a;
    decodes = sym (decoded_like image m before.pc like) ∙ sym decodes ∙ some;
    step = subst (λ (x : Stepped). IsStep image q.round (own_held i p.events) p.console q.console before after x) done
        (subst (λ (o : Option Span). IsStep image q.round o p.console q.console before after answer) holds step);
    harts = harts;
    instructions = instructions;
    event = e;
    event_of = record { hart = ap (λ (f : Event). f.hart) event ∙ sym same; access = ap (λ (f : Event). f.access) event };
    events = events;
  }));
  reads = λ f v more is.
      let ends : f ≡ e = sym (last_same p.events e f (sym events ∙ more)) in
      number v (read_by a answer v done (ap (λ (x : Event). read_of x.access) (sym (ends ∙ event)) ∙ is));
}

pub one_stops : (image : Memory) (i code : ℕ) (s : ScriptedStep) (p q : Standing) (before after : Hart) (answer : Stepped) (own : Option Span) →
    i ≡ s.hart → i < length p.harts → before ≡ slice_index_or p.harts i before → p.round ≤ q.round → own ≡ own_held i p.events → answer ≡ Stopped code →
    IsStep image q.round own p.console q.console before after answer → q.harts ≡ slice_set p.harts i after → q.instructions ≡ p.instructions → q.events ≡ p.events → q.round ≡ s.round → Takes image s p q
one_stops image i code s p q before after answer own same within there later holds halts step harts instructions events round = record {
  round = round;
  step = inr (subst (λ (k : ℕ). Stops image k p q) same (record {
    before = before;
    within = within;
    there = there;
    after = after;
    later = later;
    code = code;
    step = subst (λ (x : Stepped). IsStep image q.round (own_held i p.events) p.console q.console before after x) halts
        (subst (λ (o : Option Span). IsStep image q.round o p.console q.console before after answer) holds step);
    harts = harts;
    instructions = instructions;
    events = events;
  }));
  reads = λ e v more is. absurd (omega (arith, ap length (sym events ∙ more), length-append p.events (e ∷ [])));
}

-- what one answer read is one number
read_once : (answer : Stepped) (v w : ℕ) → IsRead answer v → IsRead answer w → Some v ≡ Some w
read_once answer v w x y = sym x.2 ∙ ap (λ (o : Option ℕ). o) (ap read_in (sym x.1 ∙ y.1)) ∙ y.2
  where
    read_in : Stepped → Option ℕ
    read_in (Done (Some a)) = read_of a
    read_in (Done None) = None
    read_in Waits = None
    read_in (Stopped code) = None

-- where an instruction reads another number than the step's, the step with that number is taken
pub reads_other : (image m : Memory) (i : ℕ) (s : ScriptedStep) (p : Standing) (d : ConsoleState) (before after : Hart) (next : Option Instr) (answer : Stepped) (own : Option Span) (read : ℕ) →
    IsLike image m → i ≡ s.hart → i < length p.harts → before ≡ slice_index_or p.harts i before → p.round ≤ s.round → next ≡ decoded m before.pc → own ≡ own_held i p.events →
    IsStep image s.round own p.console d before after answer → IsRead answer read → s.number ≢ Some read → ReadsOther image s read p
reads_other image m i s p d before after None answer own read like same within there later decodes holds step reads other =
    absurd (step_was_decoded image s.round own p.console d before after (Some reads.0) (subst (IsStep image s.round own p.console d before after) reads.1 step)
    (sym (decoded_like image m before.pc like) ∙ sym decodes))
reads_other image m i s p d before after (Some instruction) answer own read like same within there later decodes holds step reads other = record {
  after = after_it;
  takes = one_goes image m i (record s { number = Some read }) p after_it before after instruction (Some reads.0) answer own (Some instruction) event_it
      like same within there later decodes refl holds reads.1 step refl refl refl refl refl (λ v x. read_once answer read v reads x);
  event = event_it;
  events = refl;
  reads = reads.2;
  other = other;
}
  where
    event_it : Event
    event_it = step_event s.hart (Some reads.0)

    after_it : Standing
    after_it = record {
      harts = slice_set p.harts i after;
      console = d;
      round = s.round;
      instructions = p.instructions ++ instruction ∷ [];
      events = p.events ++ event_it ∷ [];
    }
