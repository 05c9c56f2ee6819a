use Rattle.std.proofs.Common.{length, sym, ap, ◌∙◌, arith}
use Rattle.hart_states.specs.States.{state_of}
use Rattle.early_reads.specs.declared.early_point.LateKinds.{LateKinds}
use Rattle.early_reads.specs.Checking.{map_of}
use Rattle.early_reads.specs.Windows.{shuts}
use Rattle.late_spots.proofs.Settling.{opens_by_bounds, opens_by_map, opens_by_shutting}
use Rattle.late_spots.proofs.opening.opens.Goals as goal

pub returns-then-list-loads_from : goal.returns-then-list-loads_from
returns-then-list-loads_from c =
    let l = c.if-list-loads_from.true in
    let e = c.loads_from.ensures in
    opens_by_bounds (map_of c.args.points.now) (length c.args.list.now) c.args.owes (state_of c.args.state.now) c.args.access.now (omega (arith, l, e))

pub returns-then-is_shut : goal.returns-then-is_shut
returns-then-is_shut c =
    let y = c.args.access.now in
    let told = c.if-not-is_told.false in
    opens_by_shutting (map_of c.args.points.now) (length c.args.list.now) c.args.owes (state_of c.args.state.now) y (c.is_told.ensures.agrees told) (c.is_told.ensures.leaves told)
    (sym (ap (λ (l : LateKinds). shuts l y) c.late_of.ensures) ∙ (sym c.is_shut.ensures ∙ c.if-is_shut.true))

pub returns : goal.returns
returns c =
    let told = c.if-not-is_told.false in
    opens_by_map (map_of c.args.points.now) (length c.args.list.now) c.args.owes (state_of c.args.state.now) c.args.access.now (c.is_told.ensures.agrees told) (c.is_told.ensures.leaves told)
