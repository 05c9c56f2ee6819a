use Rattle.weak_hunter.proofs.Tabled.{no_endings}
use Rattle.weak_hunter.proofs.tabulating.tabulate.Goals as goal

pub loop-tally-init : goal.loop-tally-init
loop-tally-init g c =
    let t = c.new-tally.ensures in
    rw (t.is_over, t.done) (no_endings c.args.extent c.new-tally.result.rows.items t.rows)
