use Rattle.std.proofs.Common.{Some, None, ap, ◌∙◌}
use Rattle.round_schedule.specs.Schedule.{StepOutcome}
use Rattle.hart_step.specs.Buffered.{Overlay, seen_through}
use Rattle.hart_step.specs.declared.hart.Hart.{Hart}
use Rattle.hart_step.specs.Effect.{action}
use Rattle.hart_step.specs.Step.{performed}
use Rattle.hart_moves.proofs.computing.computed.Goals as goal

pub returns-in-Done : goal.returns-in-Done
returns-in-Done c = λ rd n pc e.
    let same = ap (λ (v : Overlay). performed (action c.args.i c.args.begun.x c.args.begun.pc) c.args.begun (seen_through v)) c.new-bus.ensures in
    ap (λ (h : Hart). Some h) (c.in_ok-answer.ensures.hart ∙ ap (λ (o : StepOutcome Hart). o.hart) (same ∙ e))

pub returns-in_default : goal.returns-in_default
returns-in_default c = λ rd n pc e.
    let same = ap (λ (v : Overlay). performed (action c.args.i c.args.begun.x c.args.begun.pc) c.args.begun (seen_through v)) c.new-bus.ensures in
    absurd (c.in_default.not-Done None (c.in_ok-answer.ensures.answer ∙ ap (λ (o : StepOutcome Hart). o.answer) (same ∙ e)))
