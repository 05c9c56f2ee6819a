use Rattle.std.proofs.Common.{◌-◌, arith, refl, sym}
use Rattle.machine.specs.Machine.{Running}
use Rattle.replayer.specs.Replayed.{start_of}
use Rattle.replayer.proofs.Begun.{begins, harts_of}
use Rattle.run_events.proofs.RoundsAt.{after_last, first_is_1}
use Rattle.replayer.proofs.RoundCount.{all_read, count_is, never_less, no_hart, none_counted}
use Rattle.replayer.proofs.counting.count_at.Goals as goal
use Rattle.replayer.proofs.counting.count_at.Goals.{then-round-eq0-via-then-round-eq0, then-round-eq0-via-else-round-eq0+then-round-rounds, then-round-eq0-via-else-round-eq0+else-round-rounds+then-hart-harts}

pub returns-then-round-eq0-clause-count : goal.returns-then-round-eq0-clause-count
returns-then-round-eq0-clause-count g c =
    let made = c.in_ok-machine.ensures.machine in (
      made.0,
      made.1,
      λ count. elim c.then-round-eq0.branch [
        | then-round-eq0-via-then-round-eq0 w ↦ sym (first_is_1 c.args.recording.now.rounds (start_of c.args.recording.now made.0) c.args.round c.args.hart count w.if-round-eq0.true)
        | then-round-eq0-via-else-round-eq0+then-round-rounds w ↦ sym (after_last c.args.recording.now.rounds (start_of c.args.recording.now made.0) c.args.round c.args.hart count (omega (arith, w.if-round-rounds.true, w.rounds.ensures)))
        | then-round-eq0-via-else-round-eq0+else-round-rounds+then-hart-harts w ↦ no_hart c.args.recording.now.rounds (start_of c.args.recording.now made.0) c.args.round c.args.hart count (omega (arith, w.if-hart-harts.true, w.harts.ensures.value, harts_of c.args.recording.now made.0 made.1))
      ],
    )

pub walk-walked-requires-clause-known : goal.walk-walked-requires-clause-known
walk-walked-requires-clause-known g c = λ lifetimes within. (refl, none_counted c.args.hart 0 c.done_by.result c.in_ok-machine.machine c.done_by.ensures)

pub overflow_sub-result : goal.overflow_sub-result
overflow_sub-result g c =
    let made = c.in_ok-machine.ensures.machine in
    let m : Running = start_of c.args.recording.now made.0 in
    let b = begins c.in_ok-machine.machine c.args.recording.now made.0 c.args.hart made.1 (omega (arith, c.if-hart-harts.false, c.harts.ensures.value)) (omega (arith, c.budget-budget.ensures.value, c.budget-budget.ensures.range.1))
    (λ cause least. c.in_ok-machine.ensures.in_order.image cause c.in_ok-machine.ensures.in_range least) (λ cause good least. c.in_ok-machine.ensures.in_order.plan cause c.in_ok-machine.ensures.in_range good least) in
    let r = all_read m c.args.round c.args.hart c.in_ok-_rounds._rounds c.in_ok-machine.machine c.walk-walked.new.visitor.before c.walk-walked.new.visitor.after b made.2 (omega (arith, c.if-round-eq0.false)) (omega (arith, c.ranges.round.fits)) c.in_ok-_rounds.ensures.ended c.in_ok-_rounds.ensures.known.1 in
    never_less m (c.args.round - 1) c.args.hart c.walk-walked.new.visitor.before c.walk-walked.new.visitor.after r.one r.first r.last

pub returns-clause-count : goal.returns-clause-count
returns-clause-count g c =
    let made = c.in_ok-machine.ensures.machine in
    let m : Running = start_of c.args.recording.now made.0 in
    let b = begins c.in_ok-machine.machine c.args.recording.now made.0 c.args.hart made.1 (omega (arith, c.if-hart-harts.false, c.harts.ensures.value)) (omega (arith, c.budget-budget.ensures.value, c.budget-budget.ensures.range.1))
    (λ cause least. c.in_ok-machine.ensures.in_order.image cause c.in_ok-machine.ensures.in_range least) (λ cause good least. c.in_ok-machine.ensures.in_order.plan cause c.in_ok-machine.ensures.in_range good least) in
    let r = all_read m c.args.round c.args.hart c.in_ok-_rounds._rounds c.in_ok-machine.machine c.walk-walked.new.visitor.before c.walk-walked.new.visitor.after b made.2 (omega (arith, c.if-round-eq0.false)) (omega (arith, c.ranges.round.fits)) c.in_ok-_rounds.ensures.ended c.in_ok-_rounds.ensures.known.1 in
    (made.0, made.1, count_is c.args.recording.now.rounds m c.args.round c.args.hart c.walk-walked.new.visitor.before c.walk-walked.new.visitor.after r.one (omega (arith, c.if-round-eq0.false)) (omega (arith, c.if-round-rounds.false, c.rounds.ensures)) r.first r.last)
