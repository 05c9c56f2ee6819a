use Rattle.std.proofs.Common.{◌++◌, codes, refl}
use Rattle.report_lines.specs.Text.{hex}
use Rattle.trace_events.specs.Flows.{flow_number}
use Rattle.trace_events.proofs.Chains.{last, more}
use Rattle.trace_events.proofs.flows.add_number.Goals as goal

pub returns : goal.returns
unfolding flow_number
returns c =
    let t1 = codes ",\"id\":\"" in
    let t2 = hex 15 c.args.index in
    let t3 = hex 1 c.args.byte in
    let t4 = codes "\",\"cat\":\"read\",\"name\":\"read\"}" in
    let e2 = more c.args.line.now (t1) _ _ t2 _ (c.in_ok-text.ensures) c.in_ok-hex.ensures refl in
    let e3 = more c.args.line.now (t1 ++ t2) _ _ t3 _ (e2) c.in_ok-hex-2.ensures refl in
    last c.args.line.now (t1 ++ t2 ++ t3) _ _ t4 _ _ (e3) c.text-2.ensures refl
