use Rattle.std.proofs.Common.{◌≡◌, ℕ, ◌+◌, ◌<◌, ◌≤◌, List, [], ◌∷◌, ◌++◌, length, get_or, map, take, None, ap, arith, sym, subst, ◌∙◌}
use Rattle.std.proofs.lemmas.List.{get_or-map, length-map, take_all, take_more}
use Rattle.execution_file.specs.Recorded.{Turn}
use Rattle.execution_file.specs.Sorting.{AreSorted}
use Rattle.execution_file.specs.Turns.{AreNames, Names, names-more, names-none}
use Rattle.execution_file.specs.Views.{turn_view}
use Rattle.execution_file.specs.declared.file.Turn.{Turn as TurnHeld}
use Rattle.execution_file.proofs.naming.order_named.Goals as goal

abbrev no_turn : TurnHeld
no_turn = record { hart = 0; number = None }

pub loop-number-init : goal.loop-number-init
loop-number-init c = rw c.new-order.ensures.items (record { names = names-none c.args.events.now; sorted = c.in_ok-all.ensures })

pub returns-in-None : goal.returns-in-None
returns-in-None c =
    let t = c.args.events.now in
    let turns = c.args.turns.now in
    let us = map turn_view turns in
    let k = c.loop-number.number in
    let g = c.loop-number.order.items in
    let turn = get_or turns k no_turn in
    record {
      within = omega (arith, c.loop-number-test.true, length-map turns turn_view);
      named = g;
      before = c.loop-number.invariant.names;
      none = λ u is a n.
          c.in-None.ensures.names t g c.loop-number.invariant.sorted a
          (subst (λ (v : Turn). Names v t g a) (is ∙ get_or-map turn_view turns k no_turn u c.loop-number-test.true) n);
    }

pub loop-number-preserved : goal.loop-number-preserved
loop-number-preserved c =
    let t = c.args.events.now in
    let turns = c.args.turns.now in
    let us = map turn_view turns in
    let k = c.loop-number.number in
    let g = c.loop-number.order.items in
    let u = turn_view (get_or turns k no_turn) in
    let more = c.in-Some.ensures.names t g c.loop-number.invariant.sorted in
    let pushed = c.in_ok-push-in-Some.ensures.items in
    let taken : take (k + 1) us ≡ take k us ++ u ∷ [] =
    take_more us k u (omega (arith, c.loop-number-test.true, length-map turns turn_view))
    ∙ ap (λ (x : Turn). take k us ++ x ∷ []) (get_or-map turn_view turns k no_turn u c.loop-number-test.true) in
    record {
      names =
          subst (λ (xs : List Turn). AreNames xs t c.push.new.self.items) (sym taken)
          (subst (λ (order : List ℕ). AreNames (take k us ++ u ∷ []) t order) (sym pushed) (names-more (take k us) u t g c.in-Some.index c.loop-number.invariant.names more.0));
      sorted = subst (λ (order : List ℕ). AreSorted t order c.take.new.all.items) (sym pushed) more.1;
    }

pub returns : goal.returns
returns c =
    let us = map turn_view c.args.turns.now in
    subst (λ (xs : List Turn). AreNames xs c.args.events.now c.loop-number.order.items) (take_all c.loop-number.number us (omega (arith, c.loop-number-test.false, length-map c.args.turns.now turn_view))) c.loop-number.invariant.names
