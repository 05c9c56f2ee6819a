use Rattle.std.proofs.Common.{true, false, sym, ◌∙◌, arith}
use Rattle.watching.proofs.BytesSeen.{seen_down}
use Rattle.watching.proofs.bytes.seen_by.Goals as goal

pub returns-then-shows : goal.returns-then-shows
returns-then-shows c =
    let inv = c.loop-left.invariant in
    c.byte_written.ensures
    ∙ sym (inv.1 ∙ seen_down c.args.event.now c.args.address c.args.byte c.args.earlier.now c.loop-left.left _ true c.loop-left-test.true inv.0 (sym c.shows.ensures ∙ c.if-shows.true))

pub loop-left-preserved : goal.loop-left-preserved
loop-left-preserved c =
    let inv = c.loop-left.invariant in (
      omega (arith, inv.0),
      inv.1 ∙ seen_down c.args.event.now c.args.address c.args.byte c.args.earlier.now c.loop-left.left _ false c.loop-left-test.true inv.0 (sym c.shows.ensures ∙ c.if-shows.false),
    )
