use Rattle.std.proofs.Common.{◌∙◌, Bool, ap, map, sym}
use Rattle.std.proofs.lemmas.Result.{IfOk-weaker}
use Rattle.run_events.specs.Pcs.{pc_before}
use Rattle.past_commands.proofs.Refusals.{refusal_of}
use Rattle.past_commands.specs.Watches.{pcs_told}
use Rattle.replayer.proofs.Begun.{one_plan}
use Rattle.replayer.specs.Replayed.{start_of}
use Rattle.round_planner.specs.Quotas.{Planned}
use Rattle.past_commands.proofs.watching.pcs_of.Goals as goal

pub returns-then-asked-clause-pcs : goal.returns-then-asked-clause-pcs
returns-then-asked-clause-pcs g c = λ plan planned.
    let r = c.args.recorded.now in
    let events = c.args.events.now in
    IfOk-weaker c.pcs_before.result _ _ (λ v p.
    p.2
    ∙ ap (λ (other : Planned). map (pc_before r.rounds (start_of r other)) events) (one_plan r p.0 plan p.1 planned)
    ∙ ap (λ (asked : Bool). pcs_told asked r (start_of r plan) events) (sym c.if-asked.true)) c.pcs_before.ensures.pcs

pub returns-then-asked-clause-errors : goal.returns-then-asked-clause-errors
returns-then-asked-clause-errors g c = refusal_of c.args.asked.now.workers c.args.recorded.now c.pcs_before.result c.pcs_before.ensures.in_order
