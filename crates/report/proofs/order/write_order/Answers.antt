use Rattle.std.proofs.Common.{◌≡◌, ◌∙◌, ◌<◌, ℕ, All, Bool, List, true, inr, length, refl, sym, ap, subst}
use Rattle.report.specs.Order.{IsCheckedOrder, order_text}
use Rattle.report.specs.Pending.{way}
use Rattle.report.proofs.Orders.{listed_within, on_err, on_ok}
use Rattle.report.proofs.Writing.{begun_of, errors_of, same_text, sink_of, whole_of}
use Rattle.report.proofs.order.write_order.Goals as goal

pub put_order-requires : goal.put_order-requires
put_order-requires g c =
    subst (λ (indexes : List ℕ). All (λ p. p < length c.args.trace.now.events) indexes) (sym c.deref.ensures.value) (listed_within _ _ c.in_ok-order.ensures.lists)

pub returns-clause-ok : goal.returns-clause-ok
returns-clause-ok g c =
    let told : order_text c.args.trace.now.events c.deref.result.now c.in_ok-yes.yes ≡ order_text c.args.trace.now.events c.in_ok-order.order.0.items c.in_ok-yes.yes =
    ap (λ (indexes : List ℕ). order_text c.args.trace.now.events indexes c.in_ok-yes.yes) c.deref.ensures.value in
    let checked : IsCheckedOrder c.args.trace.now c.in_ok-order.order.0.items c.in_ok-yes.yes = record { by_rounds = c.in_ok-order.ensures.ordered; checked = c.in_ok-yes.ensures } in
    on_ok c.put_order.result _ _ (λ e. (c.in_ok-order.order.0.items, c.in_ok-yes.yes, checked, e))
    (whole_of _ (way (g.S.Sink.took c.args.out.now) (g.S.Sink.failures c.args.out.now) c.new-line.result) (way (g.S.Sink.took c.put_order.new.out) (g.S.Sink.failures c.put_order.new.out) c.put_order.new.line) c.put_order.result c.new-line.ensures
    (same_text _ _ (way (g.S.Sink.took c.args.out.now) (g.S.Sink.failures c.args.out.now) c.new-line.result) _ _ told c.put_order.ensures.wrote) c.put_order.ensures.empty)

pub returns-clause-meets : goal.returns-clause-meets
returns-clause-meets g c = λ budget rounds.
    let meets = c.in_ok-order.ensures.meets _ budget rounds in
    let yes = c.in_ok-yes.ensures.1 meets in
    let told : order_text c.args.trace.now.events c.deref.result.now c.in_ok-yes.yes ≡ order_text c.args.trace.now.events c.in_ok-order.order.0.items true =
    ap (λ (indexes : List ℕ). order_text c.args.trace.now.events indexes c.in_ok-yes.yes) c.deref.ensures.value
    ∙ ap (λ (answer : Bool). order_text c.args.trace.now.events c.in_ok-order.order.0.items answer) yes in
    let checked : IsCheckedOrder c.args.trace.now c.in_ok-order.order.0.items true = record { by_rounds = c.in_ok-order.ensures.ordered; checked = (λ is. meets, λ m. refl) } in
    on_ok c.put_order.result _ _ (λ e. (c.in_ok-order.order.0.items, checked, meets, e))
    (whole_of _ (way (g.S.Sink.took c.args.out.now) (g.S.Sink.failures c.args.out.now) c.new-line.result) (way (g.S.Sink.took c.put_order.new.out) (g.S.Sink.failures c.put_order.new.out) c.put_order.new.line) c.put_order.result c.new-line.ensures
    (same_text _ _ (way (g.S.Sink.took c.args.out.now) (g.S.Sink.failures c.args.out.now) c.new-line.result) _ _ told c.put_order.ensures.wrote) c.put_order.ensures.empty)

pub returns-clause-begun : goal.returns-clause-begun
returns-clause-begun g c =
    let told : order_text c.args.trace.now.events c.deref.result.now c.in_ok-yes.yes ≡ order_text c.args.trace.now.events c.in_ok-order.order.0.items c.in_ok-yes.yes =
    ap (λ (indexes : List ℕ). order_text c.args.trace.now.events indexes c.in_ok-yes.yes) c.deref.ensures.value in
    let checked : IsCheckedOrder c.args.trace.now c.in_ok-order.order.0.items c.in_ok-yes.yes = record { by_rounds = c.in_ok-order.ensures.ordered; checked = c.in_ok-yes.ensures } in
    on_err c.put_order.result _ _ (λ b. inr (c.in_ok-order.order.0.items, c.in_ok-yes.yes, checked, b))
    (begun_of _ (way (g.S.Sink.took c.args.out.now) (g.S.Sink.failures c.args.out.now) c.new-line.result) (way (g.S.Sink.took c.put_order.new.out) (g.S.Sink.failures c.put_order.new.out) c.put_order.new.line) c.put_order.result c.new-line.ensures
    (same_text _ _ (way (g.S.Sink.took c.args.out.now) (g.S.Sink.failures c.args.out.now) c.new-line.result) _ _ told c.put_order.ensures.wrote))

pub returns-clause-sink : goal.returns-clause-sink
returns-clause-sink g c = sink_of _ (way (g.S.Sink.took c.args.out.now) (g.S.Sink.failures c.args.out.now) c.new-line.result) (way (g.S.Sink.took c.put_order.new.out) (g.S.Sink.failures c.put_order.new.out) c.put_order.new.line) c.put_order.result c.new-line.ensures c.put_order.ensures.wrote

pub returns-clause-errors : goal.returns-clause-errors
returns-clause-errors g c = errors_of _ (way (g.S.Sink.took c.args.out.now) (g.S.Sink.failures c.args.out.now) c.new-line.result) (way (g.S.Sink.took c.put_order.new.out) (g.S.Sink.failures c.put_order.new.out) c.put_order.new.line) c.put_order.result c.new-line.ensures c.put_order.ensures.wrote
