use Rattle.std.proofs.Common.{List, subst, ap, ◌∙◌}
use Rattle.machine.specs.Untraced.{Untraced}
use Rattle.watching.specs.declared.watchpoint.Watchpoint.{Watchpoint}
use Rattle.round_steps.specs.Searching.{FindsNearest}
use Rattle.round_steps.proofs.StopsAlone.{nearest_stays}
use Rattle.round_steps.proofs.point_search.nearest_stop.Goals as goal

pub returns-then-have_no_new_stop-clause-nearest : goal.returns-then-have_no_new_stop-clause-nearest
returns-then-have_no_new_stop-clause-nearest g c = λ m is code.
    let t = c.args.telling.now in
    let way = c.args.way in
    let u : Untraced = c.args.machine.now in
    let v : Untraced = c.nearest_in-watched.new.machine in
    let harts = c.harts.ensures.harts ∙ ap (λ (x : Untraced). x.harts) c.requires.before in
    let found = nearest_stays way t.asked c.nothing_asked-nothing.result c.requires.stops m c.nothing_asked-nothing.ensures c.as_slice-watches.result.now c.args.rounds c.args.here.now u v
    c.harts.result.now c.harts-2.result.now c.in_ok-found.found is harts c.harts-2.ensures.harts (c.have_no_new_stop.ensures c.if-have_no_new_stop.true) (c.in_ok-found.ensures.nearest m is code) in
    subst (λ (ws : List Watchpoint). FindsNearest way t.asked ws m c.args.rounds c.args.here.now u v c.in_ok-found.found) c.as_slice-watches.ensures.value found
