use Rattle.std.proofs.Common.{ℕ, ◌<◌, ◌∙◌, ◌++◌, List, [], ◌∷◌, None, ap, arith, length, refl, subst, sym}
use Rattle.std.proofs.lemmas.List.{get_or_default, length-set}
use Rattle.rv64_decode.specs.declared.instruction.Instr.{Instr}
use Rattle.round_schedule.specs.declared.access.Stepped.{Stepped}
use Rattle.round_schedule.specs.declared.event.Event.{Event}
use Rattle.execution.specs.Executions.{IsStep, own_held}
use Rattle.execution.specs.Progressing.{standing, step_event}
use Rattle.execution.proofs.Answering.{like_itself, step_never_waits, step_reading_console, step_was_decoded}
use Rattle.execution.proofs.Owning.{owned_step}
use Rattle.execution.proofs.Stepping.{at_none, at_some, one_goes, one_stops, reads_other, same_standing}
use Rattle.execution.proofs.progress.take_step.Goals as goal

pub unreachable-requires : goal.unreachable-requires
unreachable-requires c =
    let m = c.args.progress.now.shared.pages.memory in
    step_was_decoded m _ _ _ _ _ _ c.in-Done.access
    (subst (λ (s : Stepped). IsStep m c.args.step.round c.index-own.result.now c.args.progress.now.shared.console.console c.do_step.new.shared.console.console c.index.result.now c.do_step.new.h s) c.in-Done.is
    (c.in_ok-answer.ensures.step m (like_itself m)))
    (sym c.instruction_at-next.ensures ∙ c.in-None.is)

pub unreachable-requires-in-Waits : goal.unreachable-requires-in-Waits
unreachable-requires-in-Waits c =
    let m = c.args.progress.now.shared.pages.memory in
    step_never_waits m _ _ _ _ _ _
    (subst (λ (s : Stepped). IsStep m c.args.step.round c.index-own.result.now c.args.progress.now.shared.console.console c.do_step.new.shared.console.console c.index.result.now c.do_step.new.h s) c.in-Waits.is
    (c.in_ok-answer.ensures.step m (like_itself m)))

pub returns-in-Some-next-clause-ready : goal.returns-in-Some-next-clause-ready
returns-in-Some-next-clause-ready c =
    let p = c.args.progress.now in
    let i = c.from-index.result in
    let n = length p.harts.items in
    let inside : i < n = omega (arith, c.if-index-len.false, c.len.ensures, p.harts.ok.0) in
    let inside_own : i < length p.own.items = omega (arith, inside, c.requires.owned) in
    let holds = c.index-own.ensures ∙ get_or_default p.own.items i c.index-own.result.now None inside_own ∙ c.requires.own i inside in
    record {
      few = omega (arith, length-set p.harts.items i c.do_step.new.h, c.requires.few);
      reservations = c.in_ok-answer.ensures.reservations ∙ c.requires.reservations ∙ sym (length-set p.harts.items i c.do_step.new.h);
      owned = length-set p.own.items i c.own_held_after.result ∙ c.requires.owned ∙ sym (length-set p.harts.items i c.do_step.new.h);
      own = λ j l.
          let k : j < n = omega (arith, l, length-set p.harts.items i c.do_step.new.h) in
          owned_step p.own.items p.events.items n i c.in-Done.access c.index-own.result.now c.own_held_after.result c.requires.owned inside c.requires.own holds c.own_held_after.ensures j k
          ∙ ap (own_held j) (ap (λ (k : ℕ). p.events.items ++ step_event k c.in-Done.access ∷ []) c.from-index.ensures
          ∙ ap (λ (f : Event). p.events.items ++ f ∷ []) (sym c.event_of-event.ensures)
          ∙ ap (λ (t : List Event). t ++ c.event_of-event.result ∷ []) (sym c.in_ok-reserve_one.ensures.events) ∙ sym c.note.ensures.events);
    }

pub returns-in-Some-next-clause-took : goal.returns-in-Some-next-clause-took
returns-in-Some-next-clause-took c = λ image like.
    let p = c.args.progress.now in
    let i = c.from-index.result in
    let inside : i < length p.harts.items = omega (arith, c.if-index-len.false, c.len.ensures, p.harts.ok.0) in
    let inside_own : i < length p.own.items = omega (arith, inside, c.requires.owned) in
    let holds = c.index-own.ensures ∙ get_or_default p.own.items i c.index-own.result.now None inside_own ∙ c.requires.own i inside in
    one_goes image p.shared.pages.memory i c.args.step (standing p) _ c.index.result.now c.do_step.new.h c.in-Some-next.instruction c.in-Done.access c.in_ok-answer.answer c.index-own.result.now c.instruction_at-next.result c.event_of-event.result
    like c.from-index.ensures inside c.index.ensures c.if-step-progress.false c.instruction_at-next.ensures c.in-Some-next.is holds c.in-Done.is (c.in_ok-answer.ensures.step image like) refl
    (c.note.ensures.instructions ∙ ap (λ (is : List Instr). is ++ c.in-Some-next.instruction ∷ []) c.in_ok-reserve_one.ensures.instructions) c.event_of-event.ensures
    (c.note.ensures.events ∙ ap (λ (t : List Event). t ++ c.event_of-event.result ∷ []) c.in_ok-reserve_one.ensures.events) refl (at_none c.other_read.result _ _ c.in_default.is c.other_read.ensures)

pub returns-in-Some-clause-ready : goal.returns-in-Some-clause-ready
returns-in-Some-clause-ready c =
    let p = c.args.progress.now in
    record {
      few = c.requires.few;
      reservations = c.in_ok-answer.ensures.reservations ∙ c.requires.reservations;
      owned = c.requires.owned;
      own = λ i l. c.requires.own i l ∙ ap (λ (t : List Event). own_held i t) (sym c.in_ok-reserve_one.ensures.events);
    }

pub returns-in-Some-clause-took : goal.returns-in-Some-clause-took
returns-in-Some-clause-took c =
    let p = c.args.progress.now in
    let m = p.shared.pages.memory in
    let i = c.from-index.result in
    let inside : i < length p.harts.items = omega (arith, c.if-index-len.false, c.len.ensures, p.harts.ok.0) in
    let inside_own : i < length p.own.items = omega (arith, inside, c.requires.owned) in
    let holds = c.index-own.ensures ∙ get_or_default p.own.items i c.index-own.result.now None inside_own ∙ c.requires.own i inside in
    let reads = at_some c.other_read.result c.in-Some.read _ _ c.in-Some.is c.other_read.ensures in
    let console = step_reading_console m _ _ _ _ _ _ _ _ (c.in_ok-answer.ensures.step m (like_itself m)) reads.0 in (
      (λ image like. reads_other image m i c.args.step (standing p) _ c.index.result.now c.do_step.new.h c.instruction_at-next.result c.in_ok-answer.answer c.index-own.result.now c.in-Some.read
          like c.from-index.ensures inside c.index.ensures c.if-step-progress.false c.instruction_at-next.ensures holds (c.in_ok-answer.ensures.step image like) reads.0 reads.1),
      same_standing (standing p) _ refl console refl c.in_ok-reserve_one.ensures.instructions c.in_ok-reserve_one.ensures.events,
    )

pub returns-in-Stopped-clause-took : goal.returns-in-Stopped-clause-took
returns-in-Stopped-clause-took c = λ image like.
    let p = c.args.progress.now in
    let i = c.from-index.result in
    let inside : i < length p.harts.items = omega (arith, c.if-index-len.false, c.len.ensures, p.harts.ok.0) in
    let inside_own : i < length p.own.items = omega (arith, inside, c.requires.owned) in
    let holds = c.index-own.ensures ∙ get_or_default p.own.items i c.index-own.result.now None inside_own ∙ c.requires.own i inside in
    one_stops image i c.in-Stopped.field-0 c.args.step (standing p) _ c.index.result.now c.do_step.new.h c.in_ok-answer.answer c.index-own.result.now
    c.from-index.ensures inside c.index.ensures c.if-step-progress.false holds c.in-Stopped.is (c.in_ok-answer.ensures.step image like) refl
    c.in_ok-reserve_one.ensures.instructions c.in_ok-reserve_one.ensures.events refl
