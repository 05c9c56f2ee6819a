use Rattle.std.proofs.Common.{◌∙◌, ap, arith, length}
use Rattle.parallel_phase.proofs.Placing.{of_each, whole_at}
use Rattle.parallel_phase.specs.Rounds.{IsWorker}
use Rattle.parallel_phase.proofs.gathering.gather.Goals as goal

pub work_all-requires-clause-others : goal.work_all-requires-clause-others
work_all-requires-clause-others g c = λ lifetimes within.
    of_each (IsWorker c.in_ok-book.book.table c.in_ok-book.book.harts) c.as_mut_slice.result.now c.in_ok-book.others.items c.as_mut_slice.ensures.value c.in_ok-book.ensures.others

pub take_whole-requires-clause-number : goal.take_whole-requires-clause-number
take_whole-requires-clause-number g c = c.work_all.ensures.kept.number ∙ c.in_ok-book.ensures.calling.number

pub take_whole-requires-clause-next : goal.take_whole-requires-clause-next
take_whole-requires-clause-next g c = omega (arith, c.work_all.ensures.kept.round, c.in_ok-book.ensures.first.0)

pub returns : goal.returns
returns g c =
    whole_at c.work_all.new.seat.round 0 c.in_ok-book.book.harts (length c.args.start.now.harts) c.in-Some.history.items (c.work_all.ensures.kept.round ∙ c.in_ok-book.ensures.first.0)
    (omega (arith, c.in_ok-book.ensures.harts, ap length c.harts-harts.ensures.harts)) c.in-Some.ensures.whole
