use Rattle.std.proofs.Common.{ap, codes, refl}
use Rattle.trace_events.specs.Flows.{flow_start, flow_text}
use Rattle.trace_events.proofs.Chains.{first, last, more}
use Rattle.trace_events.proofs.flows.add_flow.Goals as goal

pub returns : goal.returns
unfolding flow_text
returns c =
    last _ _ _ _ _ _ _ (more _ _ _ _ _ _ (more _ _ _ _ _ _ (first _ _ _ _ c.in_ok-add_end.ensures (ap (λ h. flow_start (codes "\"s\"") h c.args.writer) c.hart_at.ensures)) c.in_ok-add_number.ensures refl) c.in_ok-add_end-2.ensures (ap (λ h. flow_start (codes "\"f\",\"bp\":\"e\"") h c.args.index) c.hart_at-2.ensures)) c.add_number-2.ensures refl
