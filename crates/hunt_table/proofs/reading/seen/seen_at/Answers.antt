use Rattle.std.proofs.Common.{ℕ, ◌+◌, ◌-◌, List, [], ◌∷◌, ◌++◌, length, get_or, refl, sym, ap, ◌∙◌, arith}
use Rattle.std.proofs.lemmas.List.{flat_map_more, map_push}
use Rattle.hunt_table.specs.declared.seen_range.SeenRange.{SeenRange}
use Rattle.hunt_table.specs.Reading.{bytes_of, is_seen_line, ranges_of, seen_at, seen_line_at}
use Rattle.hunt_table.proofs.Loops.{goes_end, goes_none, goes_on, is_there, not_there}
use Rattle.hunt_table.proofs.reading.seen.seen_at.Goals as goal
use Rattle.hunt_table.proofs.reading.seen.seen_at.Goals.{else-lines-test, then-lines-test+then-byte_at-ne115}

pub lines-preserved : goal.lines-preserved
lines-preserved c =
    let text = c.args.text.now in
    let front = c.lines.invariant.0 in
    let line = (seen_line_at c.lines.rest.now).0 in (
      front ++ line ∷ [],
      c.in_ok-rest.ensures.ranges ∙ ap (λ (v : List SeenRange). v ++ line.0 ∷ []) c.lines.invariant.1 ∙ sym (map_push (λ (l : SeenRange × List ℕ). l.0) front line),
      c.in_ok-rest.ensures.bytes ∙ ap (λ (v : List ℕ). v ++ line.1) c.lines.invariant.2 ∙ flat_map_more (λ (l : SeenRange × List ℕ). l.1) [] front line,
      goes_on is_seen_line seen_line_at (length text - (c.lines.counter + 1)) (length text - c.lines.counter) c.lines.rest.now c.in_ok-rest.rest.now line front (seen_at text)
          (omega (arith, c.lines-test.true)) (is_there c.byte_at.result (get_or c.lines.rest.now 0 0) 115 c.byte_at.ensures (omega (arith, c.if-byte_at-ne115.false)))
          refl c.in_ok-rest.ensures.rest c.lines.invariant.3,
    )

pub returns-clause-ranges : goal.returns-clause-ranges
returns-clause-ranges c =
    let text = c.args.text.now in
    let left = length text - c.lines.counter in
    c.lines.invariant.1 ∙ ap ranges_of (elim c.lines-test.branch [
      | else-lines-test w ↦ (goes_end is_seen_line seen_line_at left c.lines.rest.now c.lines.invariant.0 (seen_at text) (omega (arith, w.lines-test.false)) c.lines.invariant.3).parts
      | then-lines-test+then-byte_at-ne115 w ↦
          (goes_none is_seen_line seen_line_at left c.lines.rest.now c.lines.invariant.0 (seen_at text)
          (not_there w.byte_at.result (get_or c.lines.rest.now 0 0) 115 w.byte_at.ensures (λ e. w.if-byte_at-ne115.true e)) c.lines.invariant.3).parts
    ])

pub returns-clause-bytes : goal.returns-clause-bytes
returns-clause-bytes c =
    let text = c.args.text.now in
    let left = length text - c.lines.counter in
    c.lines.invariant.2 ∙ ap bytes_of (elim c.lines-test.branch [
      | else-lines-test w ↦ (goes_end is_seen_line seen_line_at left c.lines.rest.now c.lines.invariant.0 (seen_at text) (omega (arith, w.lines-test.false)) c.lines.invariant.3).parts
      | then-lines-test+then-byte_at-ne115 w ↦
          (goes_none is_seen_line seen_line_at left c.lines.rest.now c.lines.invariant.0 (seen_at text)
          (not_there w.byte_at.result (get_or c.lines.rest.now 0 0) 115 w.byte_at.ensures (λ e. w.if-byte_at-ne115.true e)) c.lines.invariant.3).parts
    ])

pub returns-clause-rest : goal.returns-clause-rest
returns-clause-rest c =
    let text = c.args.text.now in
    let left = length text - c.lines.counter in
    elim c.lines-test.branch [
      | else-lines-test w ↦ (goes_end is_seen_line seen_line_at left c.lines.rest.now c.lines.invariant.0 (seen_at text) (omega (arith, w.lines-test.false)) c.lines.invariant.3).rest
      | then-lines-test+then-byte_at-ne115 w ↦
          (goes_none is_seen_line seen_line_at left c.lines.rest.now c.lines.invariant.0 (seen_at text)
          (not_there w.byte_at.result (get_or c.lines.rest.now 0 0) 115 w.byte_at.ensures (λ e. w.if-byte_at-ne115.true e)) c.lines.invariant.3).rest
    ]
