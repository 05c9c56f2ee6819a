use Rattle.std.proofs.Common.{sym, ◌∙◌}
use Rattle.hart_states.specs.States.{listed}
use Rattle.settled_walks.proofs.Counted.{place_at, place_past}
use Rattle.settled_walks.proofs.kept_times.store_kept.Goals as goal

pub returns-then-place-last : goal.returns-then-place-last
returns-then-place-last c =
    sym (place_at c.args.stays.now (listed c.args.list.now) c.args.address c.args.place c.last_laid-last.result c.last_laid-last.ensures c.if-place-last.true)

pub returns : goal.returns
returns c =
    c.kept_before.ensures ∙ sym (place_past c.args.stays.now (listed c.args.list.now) c.args.address c.args.place c.last_laid-last.result c.last_laid-last.ensures c.if-place-last.false)
