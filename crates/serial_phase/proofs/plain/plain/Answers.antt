use Rattle.std.proofs.Common.{refl, sym, ap, subst, ◌∙◌}
use Rattle.round_schedule.specs.declared.access.Stepped.{Stepped}
use Rattle.hart_step.specs.Room.{TakesDirectly}
use Rattle.hart_step.specs.Rounds.{IsStep}
use Rattle.hart_step.specs.Step.{stepped}
use Rattle.hart_step.proofs.Shown.{shows_step}
use Rattle.serial_phase.specs.Plain.{IsPlainAnswer}
use Rattle.serial_phase.specs.Words.{answered_reservations}
use Rattle.serial_phase.proofs.PlainSteps.{good_step, all_room, if_ok}
use Rattle.serial_phase.proofs.plain.plain.Goals as goal

pub unwrap-answer-requires : goal.unwrap-answer-requires
unwrap-answer-requires c = c.step_decoded.ensures.room (all_room c.args.state.now.pages c.args.h.now _ c.count-pages.ensures.pages c.count-pages.ensures.bytes c.requires.room)

pub note_answer-requires : goal.note_answer-requires
note_answer-requires c = subst IsPlainAnswer (sym (if_ok _ _ _ c.unwrap-answer.ensures c.step_decoded.ensures.did).answer) (good_step c.args.state.now.pages.memory c.args.h.now).plain

pub invariant_of-state : goal.invariant_of-state
invariant_of-state c =
    let state = c.args.state.now in
    let m = state.pages.memory in
    let s = if_ok (λ (y : Stepped). IsStep (λ ss q. TakesDirectly state.pages ss q) c.step_decoded.new.b.memory (stepped c.args.h.now m) m y c.step_decoded.new.h c.step_decoded.new.b) _ _ c.unwrap-answer.ensures c.step_decoded.ensures.did in
    record { shows = shows_step m c.step_decoded.new.b.memory c.args.h.now _ _ s.bytes state.shows }

pub returns : goal.returns
returns c =
    let pages = c.args.state.now.pages in
    let m = pages.memory in
    let s = if_ok (λ (y : Stepped). IsStep (λ ss q. TakesDirectly pages ss q) c.step_decoded.new.b.memory (stepped c.args.h.now m) m y c.step_decoded.new.h c.step_decoded.new.b) _ _ c.unwrap-answer.ensures c.step_decoded.ensures.did in
    record {
      answer = s.answer;
      leaves = record {
        hart = s.hart;
        pages = s.stores;
        reservations = c.note_answer.ensures ∙ ap (λ (y : Stepped). answered_reservations c.args.hart y c.args.state.now.reservations) s.answer;
        console = refl;
        code = refl;
        log = refl;
      };
    }
