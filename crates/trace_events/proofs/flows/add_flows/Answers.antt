use Rattle.std.proofs.Common.{◌++◌, ◌∙◌, [], List, Option, ap, arith, sym, take, ℕ}
use Rattle.std.proofs.lemmas.List.{take_all}
use Rattle.trace_events.specs.Flows.{flows_from}
use Rattle.trace_events.proofs.FlowsGrow.{flows_more}
use Rattle.trace_events.proofs.flows.add_flows.Goals as goal

pub loop-byte-preserved : goal.loop-byte-preserved
loop-byte-preserved c =
    flows_more c.args.events.now c.args.index c.deref-writer-items.result.now (take c.loop-byte.byte c.deref.result.now) c.loop-byte.byte _ c.args.line.now c.loop-byte.line _
    c.in_ok-add_flow_to.ensures c.loop-byte.invariant (omega (arith, c.loop-byte-test.true))
    (ap (λ (ss : List (Option ℕ)). take c.loop-byte.byte ss) (c.deref.ensures.value ∙ sym c.deref-writer-items.ensures.value))

pub returns : goal.returns
returns c =
    c.loop-byte.invariant
    ∙ ap (λ (ss : List (Option ℕ)). c.args.line.now ++ flows_from c.args.events.now c.args.index [] ss)
    (take_all c.loop-byte.byte c.deref-writer-items.result.now (omega (arith, c.loop-byte-test.false)) ∙ c.deref-writer-items.ensures.value ∙ c.in_ok-found.ensures)
