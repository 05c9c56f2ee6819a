use Rattle.std.proofs.Common.{arith}
use Rattle.run_events.proofs.Overlaps.{if_after, if_before, no_byte, no_range}
use Rattle.run_events.proofs.finding.has_byte.Goals as goal
use Rattle.run_events.proofs.finding.has_byte.Goals.{then-bytes-eq0-via-then-bytes-eq0, then-bytes-eq0-via-else-bytes-eq0+then-range-eq0}

pub returns-then-bytes-eq0 : goal.returns-then-bytes-eq0
returns-then-bytes-eq0 c =
    let r = c.args.range.now in
    elim c.then-bytes-eq0.branch [
      | then-bytes-eq0-via-then-bytes-eq0 w ↦ no_byte r.start r.len c.args.address c.args.bytes w.if-bytes-eq0.true
      | then-bytes-eq0-via-else-bytes-eq0+then-range-eq0 w ↦ no_range r.start r.len c.args.address c.args.bytes w.if-range-eq0.true
    ]

pub returns-then-first-start : goal.returns-then-first-start
returns-then-first-start c =
    let r = c.args.range.now in
    rw c.from-then-first-start.ensures (if_before r.start r.len c.args.address c.args.bytes c.from-start.result c.from-first.result c.from-start.ensures c.from-first.ensures
    (omega (arith, c.if-first-start.true, c.from.ensures)) (omega (arith, c.if-range-eq0.false)) (omega (arith, c.if-bytes-eq0.false)))

pub returns-else-first-start : goal.returns-else-first-start
returns-else-first-start c =
    let r = c.args.range.now in
    rw c.from.ensures (if_after r.start r.len c.args.address c.args.bytes c.from-start.result c.from-first.result c.from-start.ensures c.from-first.ensures (omega (arith, c.if-first-start.false, c.from.ensures)))
