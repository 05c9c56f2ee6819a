use Rattle.std.proofs.Common.{ap, ◌∙◌}
use Rattle.hart_step.specs.Buffered.{Overlay, seen_through}
use Rattle.hart_step.specs.declared.hart.Hart.{Hart}
use Rattle.hart_step.specs.Effect.{action}
use Rattle.hart_step.specs.Step.{performed}
use Rattle.hart_moves.proofs.Stops.{call_only, others_stop}
use Rattle.hart_moves.proofs.stopping.other_stop.Goals as goal

pub returns : goal.returns
returns c = λ other.
    let i = c.args.i in
    let h = c.args.begun in
    let same = ap (λ (v : Overlay). (performed (action i h.x h.pc) h (seen_through v)).hart.stop) c.new-bus.ensures in
    ap (λ (g : Hart). g.stop) c.in_ok-step_through.ensures.hart ∙ same
    ∙ others_stop c.args.pages.now.memory h (action i h.x h.pc) c.requires.runs c.requires.none (λ e. other (call_only i h.x h.pc e))
