use Rattle.std.proofs.Common.{◌≡◌, length, arith, rules}
use Rattle.hart_states.specs.States.{listed}
use Rattle.settled_walks.proofs.Counted.{sources_all}
use Rattle.settled_walks.proofs.kept_times.sources_from.Goals as goal

pub returns : goal.returns
returns c =
    let over = c.loop-index-test.false in
    let size : length c.args.sources.now ≡ 8 = search rules in
    sources_all c.args.stays.now (listed c.args.list.now) c.args.address c.loop-index.index c.args.sources.now c.loop-index.kept (omega (arith, over, size)) c.loop-index.invariant.counted
