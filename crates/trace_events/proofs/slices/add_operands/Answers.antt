use Rattle.std.proofs.Common.{◌++◌, codes, refl}
use Rattle.std.specs.Fmt.{decimal}
use Rattle.pages.specs.Memory.{width_bytes}
use Rattle.report_lines.specs.Text.{hex, number_text}
use Rattle.trace_events.specs.Slices.{operands_text}
use Rattle.trace_events.proofs.Chains.{last, more}
use Rattle.trace_events.proofs.slices.add_operands.Goals as goal

pub returns : goal.returns
unfolding operands_text
returns c =
    let t1 = codes ",\"address\":\"" in
    let t2 = hex 8 c.args.address in
    let t3 = codes "\",\"bytes\":" in
    let t4 = decimal (width_bytes c.args.width) in
    let t5 = codes ",\"read\":\"" in
    let t6 = number_text c.args.width c.args.numbers.0 in
    let t7 = codes "\",\"written\":\"" in
    let t8 = number_text c.args.width c.args.numbers.1 in
    let t9 = codes "\"" in
    let e2 = more c.args.line.now (t1) _ _ t2 _ (c.in_ok-text.ensures) c.in_ok-hex.ensures refl in
    let e3 = more c.args.line.now (t1 ++ t2) _ _ t3 _ (e2) c.in_ok-text-2.ensures refl in
    let e4 = more c.args.line.now (t1 ++ t2 ++ t3) _ _ t4 _ (e3) c.in_ok-text-3.ensures c.byte_count.ensures in
    let e5 = more c.args.line.now (t1 ++ t2 ++ t3 ++ t4) _ _ t5 _ (e4) c.in_ok-text-4.ensures refl in
    let e6 = more c.args.line.now (t1 ++ t2 ++ t3 ++ t4 ++ t5) _ _ t6 _ (e5) c.in_ok-add_number.ensures refl in
    let e7 = more c.args.line.now (t1 ++ t2 ++ t3 ++ t4 ++ t5 ++ t6) _ _ t7 _ (e6) c.in_ok-text-5.ensures refl in
    let e8 = more c.args.line.now (t1 ++ t2 ++ t3 ++ t4 ++ t5 ++ t6 ++ t7) _ _ t8 _ (e7) c.in_ok-add_number-2.ensures refl in
    last c.args.line.now (t1 ++ t2 ++ t3 ++ t4 ++ t5 ++ t6 ++ t7 ++ t8) _ _ t9 _ _ (e8) c.text-6.ensures refl
