use Rattle.std.proofs.Common.{◌≡◌, ℕ, ◌+◌, ◌<◌, ◌≤◌, List, length, get_or, slice_set, refl, ap, arith, rules, sym, subst, true, false, ◌∙◌}
use Rattle.std.proofs.lemmas.List.{length-set}
use Rattle.memory_order.specs.Operations.{is_operation}
use Rattle.round_schedule.specs.Positions.{event}
use Rattle.execution_file.specs.Sorting.{AreFirst}
use Rattle.execution_file.specs.declared.operations.Operations.{Operations}
use Rattle.execution_file.proofs.NamedTurns.{all_unnamed, no_operations, none_more_first, sorted_first}
use Rattle.execution_file.proofs.naming.operations_of.Goals as goal
use Rattle.execution_file.proofs.naming.operations_of.Goals.{then-is_operation_at+in_ok-add_operation, else-is_operation_at}

pub loop-index-init : goal.loop-index-init
loop-index-init c = record {
  harts = c.in_ok-all.ensures.harts;
  each = λ h few d. no_operations c.args.events.now h (get_or c.in_ok-all.all.items h d) (c.in_ok-all.ensures.empty h d few);
}

pub loop-index-preserved : goal.loop-index-preserved
loop-index-preserved c = elim c.if-is_operation_at.branch [
  | then-is_operation_at+in_ok-add_operation w ↦
      let t = c.args.events.now in
      let i = c.loop-index.index in
      let all = c.loop-index.all.items in
      let added = w.in_ok-add_operation.ensures in
      let op : is_operation (event t i) ≡ true = sym c.is_operation_at.ensures ∙ w.if-is_operation_at.true in
      let few : w.hart_at.result < 256 = search rules in
      rw w.all-is (record {
        harts = ap (λ (os : List Operations). length os) added.1 ∙ length-set all w.hart_at.result added.0 ∙ c.loop-index.invariant.harts;
        each = λ h h_few d.
            subst (λ (os : List Operations). AreFirst t (i + 1) h (get_or os h d)) (sym added.1)
            (sorted_first t i w.hart_at.result all added.0 c.loop-index-test.true few c.loop-index.invariant.harts (sym w.hart_at.ensures) op c.loop-index.invariant.each added.2 h h_few d);
      })
  | else-is_operation_at w ↦
      let t = c.args.events.now in
      let i = c.loop-index.index in
      rw w.all-is (record {
        harts = c.loop-index.invariant.harts;
        each = λ h few d.
            none_more_first t i h (get_or c.loop-index.all.items h d) c.loop-index-test.true (sym c.is_operation_at.ensures ∙ w.if-is_operation_at.false) (c.loop-index.invariant.each h few d);
      })
]

pub returns : goal.returns
returns c =
    let t = c.args.events.now in
    let at : c.loop-index.index ≡ length t = omega (arith, c.loop-index-test.false, c.loop-index.auto.index-end) in
    record {
      harts = c.loop-index.invariant.harts;
      each = λ h few d.
          all_unnamed t h (get_or c.loop-index.all.items h d) (subst (λ (n : ℕ). AreFirst t n h (get_or c.loop-index.all.items h d)) at (c.loop-index.invariant.each h few d));
    }
