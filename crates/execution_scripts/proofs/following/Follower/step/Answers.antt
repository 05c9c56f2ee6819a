use Rattle.std.proofs.Common.{◌≡◌, ◌<◌, ℕ, List, Some, None, ap, length, refl, slice_get, subst, sym, ◌∙◌}
use Rattle.rv64_decode.specs.declared.instruction.Instr.{Instr}
use Rattle.round_schedule.specs.declared.event.Event.{Event}
use Rattle.execution.proofs.Stepping.{at_none, at_some}
use Rattle.execution_scripts.specs.Following.{line_of}
use Rattle.execution_scripts.specs.Misfits.{IsFaultAt, IsStepMisfit}
use Rattle.execution_scripts.specs.Courses.{Course, IsOn, taken_as}
use Rattle.execution_scripts.specs.declared.fault.Fault.{Fault}
use Rattle.execution_scripts.proofs.Going.{at, fault_made, misread_made, on_fault, stopped_made, took_made}
use Rattle.execution_scripts.proofs.following.Follower.step.Goals as goal

pub returns-in-Some-clause-misfit : goal.returns-in-Some-clause-misfit
returns-in-Some-clause-misfit c =
    let f = c.args.self.now in
    let h = c.args.hart in
    on_fault c.fault_at.result (record { hart = h; step = c.done-done.result; misfit = c.misfit_for.result })
    (λ (x : Fault). (k : Course) (n : ℕ) → IsOn k n f → h < length k.lines → IsFaultAt IsStepMisfit k.image (line_of k.lines h) n h (at f) x) c.fault_at.ensures
    (λ k n o l.
    fault_made k n h c.done-done.result c.misfit_for.result f c.next_step-step.result c.in-Some.fault
    (record { hart = c.next_step-step.ensures.hart; round = c.next_step-step.ensures.round; number = c.next_step-step.ensures.number })
    c.misfit_for.ensures o l ((at_some c.in_ok-fault.field-0 c.in-Some.fault _ _ c.in-Some.is c.in_ok-fault.ensures.took).0 k.image o.way.like) c.done-done.ensures)

pub returns-in-Some-misread-clause-misfit : goal.returns-in-Some-misread-clause-misfit
returns-in-Some-misread-clause-misfit c =
    let f = c.args.self.now in
    let h = c.args.hart in
    let wrong = c.in-Some-misread.ensures in
    on_fault c.fault_at-in-Some-misread.result (record { hart = h; step = c.done-done.result; misfit = c.in-Some-misread.misfit })
    (λ (x : Fault). (k : Course) (n : ℕ) → IsOn k n f → h < length k.lines → IsFaultAt IsStepMisfit k.image (line_of k.lines h) n h (at f) x) c.fault_at-in-Some-misread.ensures
    (λ k n o l.
    misread_made k n h c.done-done.result wrong.0 c.in-Some-misread.misfit f c.next_step-step.result c.take.new.self.execution.standing c.in-Some-event_at.event
    (record { hart = c.next_step-step.ensures.hart; round = c.next_step-step.ensures.round; number = c.next_step-step.ensures.number })
    wrong.3 o l (at_none c.in_ok-fault.field-0 _ _ c.in_default.is c.in_ok-fault.ensures.took k.image o.way.like)
    (ap (λ (t : List Event). slice_get c.take.new.self.execution.standing.events (length t)) (sym c.events-events.ensures) ∙ sym c.event_at.ensures ∙ c.in-Some-event_at.is)
    (sym c.number_shown-read.ensures ∙ wrong.1) wrong.2 c.done-done.ensures)

pub returns-in_default-misread-clause-took : goal.returns-in_default-misread-clause-took
returns-in_default-misread-clause-took c = λ k n o l.
    let f = c.args.self.now in
    took_made k n c.args.hart c.call_number-call.result c.number_shown-read.result c.taken_at.result f c.count.new.self c.take.new.self c.next_step-step.result c.in-Some-event_at.event
    (record { hart = c.next_step-step.ensures.hart; round = c.next_step-step.ensures.round; number = c.next_step-step.ensures.number })
    o l (c.in_ok-fault.ensures.way k.image k.start k.asked o.way) (at_none c.in_ok-fault.field-0 _ _ c.in_default.is c.in_ok-fault.ensures.took k.image o.way.like)
    (ap (λ (t : List Event). slice_get c.take.new.self.execution.standing.events (length t)) (sym c.events-events.ensures) ∙ sym c.event_at.ensures ∙ c.in-Some-event_at.is)
    c.count.ensures.way c.count.ensures.parts c.count.ensures.round (sym c.number_shown-read.ensures) (record { none = c.count.ensures.none; one = c.count.ensures.one })
    c.in_default-misread.ensures c.call_number-call.ensures
    (c.taken_at.ensures ∙ ap (λ (t : List Instr). taken_as (slice_get c.count.new.self.way.execution.standing.instructions (length t)) c.call_number-call.result) c.instructions-index.ensures)

pub returns-in-None-clause-took : goal.returns-in-None-clause-took
returns-in-None-clause-took c = λ k n o l.
    let f = c.args.self.now in
    stopped_made k n c.args.hart f (record f { way = c.take.new.self }) c.next_step-step.result
    (record { hart = c.next_step-step.ensures.hart; round = c.next_step-step.ensures.round; number = c.next_step-step.ensures.number })
    o (at_none c.in_ok-fault.field-0 _ _ c.in_default.is c.in_ok-fault.ensures.took k.image o.way.like)
    (ap (λ (t : List Event). slice_get c.take.new.self.execution.standing.events (length t)) (sym c.events-events.ensures) ∙ sym c.event_at.ensures ∙ c.in-None.is)
    (c.in_ok-fault.ensures.way k.image k.start k.asked o.way) refl refl refl
