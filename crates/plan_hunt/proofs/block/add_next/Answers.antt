use Rattle.std.proofs.Common.{◌^◌, arith}
use Rattle.plan_hunt.proofs.Added.{plans_fit, table_adds}
use Rattle.plan_hunt.proofs.Extents.{going, stands_next}
use Rattle.plan_hunt.proofs.block.add_next.Goals as goal

pub add-requires : goal.add-requires
add-requires g c =
    let t = c.args.tally.now in
    let extent = c.args.extent in
    plans_fit (g.Q.Runs.ends c.args.runs.now) extent.first t.done (2 ^ 32) t.rows.items c.requires.tally.table (omega (arith, c.requires.few, c.requires.more))

pub returns-clause-tally : goal.returns-clause-tally
returns-clause-tally g c =
    let ends = g.Q.Runs.ends c.args.runs.now in
    let t = c.args.tally.now in
    let extent = c.args.extent in
    let over = c.is_over_with-tally in
    record {
      table = table_adds ends extent.first t.done t.rows.items c.add.new.rows.items c.in_ok-ending.ending c.requires.tally.table c.in_ok-ending.ensures c.in_ok-add.ensures;
      few = omega (arith, c.requires.more);
      stands = stands_next over.result extent ends t.done t.rows.items c.in_ok-ending.ending c.requires.tally.table c.in_ok-ending.ensures (rw c.deref.ensures.value at over.ensures)
          (going t.is_over extent ends t.done c.requires.going c.requires.tally.stands);
    }
