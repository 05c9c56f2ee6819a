use Rattle.std.proofs.Common.{◌+◌, ◌++◌, ap, codes, refl}
use Rattle.std.specs.Fmt.{decimal}
use Rattle.trace_events.specs.Flows.{flow_start}
use Rattle.trace_events.proofs.Chains.{last_two, more, more_two}
use Rattle.trace_events.proofs.flows.add_end.Goals as goal

pub returns : goal.returns
unfolding flow_start
returns c =
    let t1 = codes ",\n{\"ph\":" in
    let t2 = c.args.kind.now in
    let t3 = codes ",\"pid\":0,\"tid\":" in
    let t4 = decimal (c.args.hart + 1) in
    let t5 = codes ",\"ts\":" in
    let t6 = decimal c.args.time in
    let e2 = more c.args.line.now (t1) _ _ t2 _ (c.in_ok-text.ensures) c.in_ok-text-2.ensures refl in
    let e4 = more_two c.args.line.now (t1 ++ t2) _ t3 _ t4 _ (e2) c.in_ok-add_with_number.ensures (ap decimal c.track_of.ensures) in
    last_two c.args.line.now (t1 ++ t2 ++ t3 ++ t4) _ t5 _ t6 _ _ (e4) c.add_with_number-2.ensures refl
