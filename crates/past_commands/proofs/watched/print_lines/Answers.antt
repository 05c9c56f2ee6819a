use Rattle.std.proofs.Common.{◌≡◌, Err, arith, rules}
use Rattle.past_commands.proofs.HitsLeft.{next_line}
use Rattle.past_commands.proofs.Printing.{failed_so, halfway_next, halfway_stops, since_before}
use Rattle.past_commands.proofs.watched.print_lines.Goals as goal

pub returns-in_err-print_hit : goal.returns-in_err-print_hit
returns-in_err-print_hit g c =
    let r : c.from_residual.result ≡ Err c.in_err-print_hit.field-0.0 = search rules in
    failed_so _ _ _ _ _ _ _ r
    (halfway_stops _ _ _ _ _ _ _ _ _ c.loop-number.invariant (next_line c.args.hits.now c.args.pcs.now c.loop-number.number _ c.pc_at.result c.pc_at.ensures (omega arith))
    c.in_err-print_hit.ensures.begun) (since_before _ _ _ _ c.loop-number.invariant.counts c.in_err-print_hit.ensures.errors)

pub loop-number-preserved : goal.loop-number-preserved
loop-number-preserved g c =
    halfway_next _ _ _ _ _ _ _ _ _ _ c.loop-number.invariant (next_line c.args.hits.now c.args.pcs.now c.loop-number.number _ c.pc_at.result c.pc_at.ensures (omega arith))
    c.in_ok-print_hit.ensures.done c.in_ok-print_hit.ensures.counts
