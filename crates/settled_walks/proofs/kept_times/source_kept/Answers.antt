use Rattle.std.proofs.Common.{◌+◌, arith}
use Rattle.hart_states.specs.States.{listed}
use Rattle.settled_walks.proofs.Times.{place_below}
use Rattle.settled_walks.proofs.kept_times.source_kept.Goals as goal

pub returns-then-address-end : goal.returns-then-address-end
returns-then-address-end c =
    let e = c.kept_before.ensures in
    let b = place_below c.args.stays.now (listed c.args.list.now) (c.args.address + c.args.distance) c.args.source in
    omega (arith, e, b)
