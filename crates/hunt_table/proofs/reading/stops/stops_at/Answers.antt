use Rattle.std.proofs.Common.{◌+◌, ◌-◌, List, length, get_or, subst, sym, arith}
use Rattle.plan_hunt.specs.declared.hart_ending.HartEnding.{HartEnding}
use Rattle.hunt_table.specs.Reading.{is_stop_line, stop_line_at, stops_at}
use Rattle.hunt_table.proofs.Loops.{Goes, goes_end, goes_none, goes_on, is_there, not_there}
use Rattle.hunt_table.proofs.reading.stops.stops_at.Goals as goal
use Rattle.hunt_table.proofs.reading.stops.stops_at.Goals.{else-lines-test, then-lines-test+then-byte_at-ne104}

pub lines-preserved : goal.lines-preserved
lines-preserved c =
    let text = c.args.text.now in
    let left = length text - (c.lines.counter + 1) in
    subst (λ (v : List HartEnding). Goes is_stop_line stop_line_at left c.stop_line_at-stop.result.1.now v (stops_at text)) (sym c.in_ok-push.ensures)
    (goes_on is_stop_line stop_line_at left (length text - c.lines.counter) c.lines.rest.now c.stop_line_at-stop.result.1.now c.stop_line_at-stop.result.0 c.lines.stops.items (stops_at text)
    (omega (arith, c.lines-test.true)) (is_there c.byte_at.result (get_or c.lines.rest.now 0 0) 104 c.byte_at.ensures (omega (arith, c.if-byte_at-ne104.false)))
    c.stop_line_at-stop.ensures.stop c.stop_line_at-stop.ensures.rest c.lines.invariant)

pub returns-clause-stops : goal.returns-clause-stops
returns-clause-stops c =
    let text = c.args.text.now in
    let left = length text - c.lines.counter in
    elim c.lines-test.branch [
      | else-lines-test w ↦ (goes_end is_stop_line stop_line_at left c.lines.rest.now c.lines.stops.items (stops_at text) (omega (arith, w.lines-test.false)) c.lines.invariant).parts
      | then-lines-test+then-byte_at-ne104 w ↦
          (goes_none is_stop_line stop_line_at left c.lines.rest.now c.lines.stops.items (stops_at text)
          (not_there w.byte_at.result (get_or c.lines.rest.now 0 0) 104 w.byte_at.ensures (λ e. w.if-byte_at-ne104.true e)) c.lines.invariant).parts
    ]

pub returns-clause-rest : goal.returns-clause-rest
returns-clause-rest c =
    let text = c.args.text.now in
    let left = length text - c.lines.counter in
    elim c.lines-test.branch [
      | else-lines-test w ↦ (goes_end is_stop_line stop_line_at left c.lines.rest.now c.lines.stops.items (stops_at text) (omega (arith, w.lines-test.false)) c.lines.invariant).rest
      | then-lines-test+then-byte_at-ne104 w ↦
          (goes_none is_stop_line stop_line_at left c.lines.rest.now c.lines.stops.items (stops_at text)
          (not_there w.byte_at.result (get_or c.lines.rest.now 0 0) 104 w.byte_at.ensures (λ e. w.if-byte_at-ne104.true e)) c.lines.invariant).rest
    ]
