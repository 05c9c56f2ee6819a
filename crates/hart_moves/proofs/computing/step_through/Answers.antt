use Rattle.std.proofs.Common.{ap, ◌∙◌}
use Rattle.round_schedule.specs.Schedule.{StepOutcome}
use Rattle.hart_step.specs.Buffered.{seen_through}
use Rattle.hart_step.specs.declared.hart.Hart.{Hart}
use Rattle.hart_moves.proofs.Allowed.{step_known}
use Rattle.hart_moves.proofs.computing.step_through.Goals as goal

pub returns : goal.returns
returns c =
    let d = c.in_ok-answer.ensures.did in
    let is = step_known (seen_through c.args.bus.now) c.args.h.now c.args.i c.requires.known in
    record { answer = d.answer ∙ ap (λ (o : StepOutcome Hart). o.answer) is; hart = d.hart ∙ ap (λ (o : StepOutcome Hart). o.hart) is }
