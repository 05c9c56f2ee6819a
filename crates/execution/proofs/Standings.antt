-- Where an execution stands, and a step more of it.
use Rattle.std.proofs.Common.{◌≡◌, ℕ, ◌+◌, ◌<◌, ◌≤◌, ◌⊎◌, Bool, true, false, is_some, List, [], ◌∷◌, ◌++◌, length, slice_index_or, slice_set, Option, Some, None, refl, sym, ap, subst, ◌∙◌, inl, inr, arith}
use Rattle.std.proofs.lemmas.List.{length-append}
use Rattle.pages.specs.Memory.{IsBytes, Memory}
use Rattle.rv64_decode.specs.declared.instruction.Instr.{Instr}
use Rattle.round_schedule.specs.declared.access.Access.{Access}
use Rattle.round_schedule.specs.declared.access.Stepped.TheVariants.{Done, Stopped}
use Rattle.round_schedule.specs.declared.event.Event.{Event}
use Rattle.round_schedule.specs.declared.span.Span.{Span}
use Rattle.round_schedule.specs.Schedule.{SerialOutcome}
use Rattle.hart_step.specs.declared.hart.Hart.{Hart}
use Rattle.hart_step.specs.DecodedCode.{decoded}
use Rattle.hart_step.specs.Console.{ConsoleState}
use Rattle.hart_step.specs.SerialStep.{serial_stepped}
use Rattle.execution.specs.Executions.{Executes, IsEventOf, IsLike, IsStep, MayHold, Standing, goes, own_held, stops}
use Rattle.execution.proofs.Answering.{step_was_decoded}

-- from the start, an execution leads to these harts, this console and these events, in at most n rounds
pub record Stands (image : Memory) (start : Standing) (n : ℕ) (hs : List Hart) (c : ConsoleState) (t : List Event) : Type 0 where
  pub round : ℕ
  pub within : round ≤ n
  pub instructions : List Instr
  pub executes : Executes image start (record { harts = hs; console = c; round = round; instructions = instructions; events = t })

pub stands_later : (image : Memory) (start : Standing) (n m : ℕ) (hs : List Hart) (c : ConsoleState) (t : List Event) → n ≤ m → Stands image start n hs c t → Stands image start m hs c t
stands_later image start n m hs c t l s = record { round = s.round; within = omega (arith, l, s.within); instructions = s.instructions; executes = s.executes }

set_middle : (pre post : List Hart) (h g : Hart) → slice_set (pre ++ h ∷ post) (length pre) g ≡ pre ++ g ∷ post
set_middle [] post h g = refl
set_middle (x ∷ pre) post h g = ap (λ (hs : List Hart). x ∷ hs) (set_middle pre post h g)

at_middle : (pre post : List Hart) (h : Hart) → slice_index_or (pre ++ h ∷ post) (length pre) h ≡ h
at_middle [] post h = refl
at_middle (x ∷ pre) post h = at_middle pre post h

within_middle : (pre post : List Hart) (h : Hart) → length pre < length (pre ++ h ∷ post)
within_middle pre post h = simp length-append (omega arith)

runs_on : {A : Type 0} (s : Option A) → is_some s ≡ false → s ≡ None
runs_on None e = refl
runs_on (Some s) e = cc

some_instruction : (d : Option Instr) → (d ≡ None → ⊥) → (i : Instr) × (d ≡ Some i)
some_instruction None none = absurd (none refl)
some_instruction (Some i) none = (i, refl)

-- what an instruction does is a step of an execution
step_of_outcome : (image : Memory) (n i : ℕ) (t : List Event) (h : Hart) (c : ConsoleState) (seen : Memory) (held : Option Span) (o : SerialOutcome Hart ConsoleState) →
    is_some h.stop ≡ false → IsLike image seen → IsBytes seen.bytes → MayHold (own_held i t) held → serial_stepped n h seen c held ≡ o →
    IsStep image n (own_held i t) c o.console h o.hart o.answer
step_of_outcome image n i t h c seen held o runs like bytes may is = record {
  runs = runs_on h.stop runs;
  seen = seen;
  like = like;
  bytes = bytes;
  held = held;
  may_hold = may;
  answers = ap (λ (p : SerialOutcome Hart ConsoleState). p.answer) is;
  hart = ap (λ (p : SerialOutcome Hart ConsoleState). p.hart) (sym is);
  console = ap (λ (p : SerialOutcome Hart ConsoleState). p.console) (sym is);
}

-- hart i of these does its instruction
pub stands_goes : (image : Memory) (start : Standing) (n : ℕ) (pre post : List Hart) (h : Hart) (c : ConsoleState) (t : List Event) (seen : Memory) (held : Option Span)
    (o : SerialOutcome Hart ConsoleState) (a : Option Access) (e : Event) →
    is_some h.stop ≡ false → IsLike image seen → IsBytes seen.bytes → MayHold (own_held (length pre) t) held → serial_stepped n h seen c held ≡ o → o.answer ≡ Done a → IsEventOf (length pre) a e →
    Stands image start n (pre ++ h ∷ post) c t → Stands image start n (pre ++ o.hart ∷ post) o.console (t ++ e ∷ [])
stands_goes image start n pre post h c t seen held o a e runs like bytes may is done of s =
    let p : Standing = record { harts = pre ++ h ∷ post; console = c; round = s.round; instructions = s.instructions; events = t } in
    let step : IsStep image n (own_held (length pre) t) c o.console h o.hart (Done a) = subst (IsStep image n (own_held (length pre) t) c o.console h o.hart) done (step_of_outcome image n (length pre) t h c seen held o runs like bytes may is) in
    let known : (i : Instr) × (decoded image h.pc ≡ Some i) = some_instruction (decoded image h.pc) (λ none. step_was_decoded image n (own_held (length pre) t) c o.console h o.hart a step none) in
    record {
      round = n;
      within = omega arith;
      instructions = s.instructions ++ known.0 ∷ [];
      executes = goes (length pre) start p _ s.executes (record {
        before = h;
        within = within_middle pre post h;
        there = sym (at_middle pre post h);
        after = o.hart;
        later = s.within;
        instruction = known.0;
        access = a;
        decodes = known.1;
        step = step;
        harts = sym (set_middle pre post h o.hart);
        instructions = refl;
        event = e;
        event_of = of;
        events = refl;
      });
    }

-- or it stops
pub stands_stops : (image : Memory) (start : Standing) (n : ℕ) (pre post : List Hart) (h : Hart) (c : ConsoleState) (t : List Event) (seen : Memory) (held : Option Span)
    (o : SerialOutcome Hart ConsoleState) (code : ℕ) →
    is_some h.stop ≡ false → IsLike image seen → IsBytes seen.bytes → MayHold (own_held (length pre) t) held → serial_stepped n h seen c held ≡ o → o.answer ≡ Stopped code →
    Stands image start n (pre ++ h ∷ post) c t → Stands image start n (pre ++ o.hart ∷ post) o.console t
stands_stops image start n pre post h c t seen held o code runs like bytes may is stopped s =
    let p : Standing = record { harts = pre ++ h ∷ post; console = c; round = s.round; instructions = s.instructions; events = t } in
    record {
      round = n;
      within = omega arith;
      instructions = s.instructions;
      executes = stops (length pre) start p _ s.executes (record {
        before = h;
        within = within_middle pre post h;
        there = sym (at_middle pre post h);
        after = o.hart;
        later = s.within;
        code = code;
        step = subst (IsStep image n (own_held (length pre) t) c o.console h o.hart) stopped (step_of_outcome image n (length pre) t h c seen held o runs like bytes may is);
        harts = sym (set_middle pre post h o.hart);
        instructions = refl;
        events = refl;
      });
    }
