use Rattle.std.proofs.Common.{◌+◌, ◌-◌, List, [], ◌∷◌, ◌++◌, get_or, refl, sym, ap, ◌∙◌, arith}
use Rattle.std.proofs.lemmas.List.{map_push}
use Rattle.hunt_table.specs.declared.seen_range.SeenRange.{SeenRange}
use Rattle.plan_hunt.specs.declared.row.Row.{Row}
use Rattle.hunt_table.specs.Reading.{ending_at, endings_at, is_ending_line, last_ranges, rows_of}
use Rattle.hunt_table.proofs.Loops.{goes_end, goes_none, goes_on, is_there, last_push, not_there}
use Rattle.hunt_table.proofs.reading.endings.endings_at.Goals as goal
use Rattle.hunt_table.proofs.reading.endings.endings_at.Goals.{else-endings-test, then-endings-test+then-byte_at-ne105}

pub endings-preserved : goal.endings-preserved
endings-preserved c =
    let text = c.args.text.now in
    let front = c.endings.invariant.0 in
    let ending = (ending_at c.endings.rest.now).0 in (
      front ++ ending ∷ [],
      c.in_ok-push.ensures ∙ ap (λ (r : Row). c.endings.rows.items ++ r ∷ []) c.in_ok-row.ensures.row ∙ ap (λ (v : List Row). v ++ ending.0 ∷ []) c.endings.invariant.1
          ∙ sym (map_push (λ (e : Row × List SeenRange). e.0) front ending),
      c.in_ok-row.ensures.ranges ∙ sym (last_push [] front ending),
      goes_on is_ending_line ending_at (c.args.count - (c.endings.counter + 1)) (c.args.count - c.endings.counter) c.endings.rest.now c.in_ok-row.after.now ending front (endings_at c.args.count text)
          (omega (arith, c.endings-test.true)) (is_there c.byte_at.result (get_or c.endings.rest.now 3 0) 105 c.byte_at.ensures (omega (arith, c.if-byte_at-ne105.false)))
          refl c.in_ok-row.ensures.rest c.endings.invariant.3,
    )

pub returns-clause-rows : goal.returns-clause-rows
returns-clause-rows c =
    let text = c.args.text.now in
    let left = c.args.count - c.endings.counter in
    c.endings.invariant.1 ∙ ap rows_of (elim c.endings-test.branch [
      | else-endings-test w ↦ (goes_end is_ending_line ending_at left c.endings.rest.now c.endings.invariant.0 (endings_at c.args.count text) (omega (arith, w.endings-test.false)) c.endings.invariant.3).parts
      | then-endings-test+then-byte_at-ne105 w ↦
          (goes_none is_ending_line ending_at left c.endings.rest.now c.endings.invariant.0 (endings_at c.args.count text)
          (not_there w.byte_at.result (get_or c.endings.rest.now 3 0) 105 w.byte_at.ensures (λ e. w.if-byte_at-ne105.true e)) c.endings.invariant.3).parts
    ])

pub returns-clause-ranges : goal.returns-clause-ranges
returns-clause-ranges c =
    let text = c.args.text.now in
    let left = c.args.count - c.endings.counter in
    c.endings.invariant.2 ∙ ap (last_ranges []) (elim c.endings-test.branch [
      | else-endings-test w ↦ (goes_end is_ending_line ending_at left c.endings.rest.now c.endings.invariant.0 (endings_at c.args.count text) (omega (arith, w.endings-test.false)) c.endings.invariant.3).parts
      | then-endings-test+then-byte_at-ne105 w ↦
          (goes_none is_ending_line ending_at left c.endings.rest.now c.endings.invariant.0 (endings_at c.args.count text)
          (not_there w.byte_at.result (get_or c.endings.rest.now 3 0) 105 w.byte_at.ensures (λ e. w.if-byte_at-ne105.true e)) c.endings.invariant.3).parts
    ])
