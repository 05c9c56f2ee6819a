use Rattle.std.proofs.Common.{◌∙◌, arith}
use Rattle.lasting_workers.proofs.Shared.{shared}
use Rattle.lasting_workers.proofs.board.Board.share.Goals as goal

pub work_beside-start-requires : goal.work_beside-start-requires
work_beside-start-requires g c = c.in-Some.ensures.seat.honest

pub take_whole-requires-clause-number : goal.take_whole-requires-clause-number
take_whole-requires-clause-number g c = c.work_beside-start.ensures.kept.number ∙ c.in-Some.ensures.seat.number

pub take_whole-requires-clause-next : goal.take_whole-requires-clause-next
take_whole-requires-clause-next g c = omega (arith, c.work_beside-start.ensures.kept.round, c.in-Some.ensures.round, c.requires.later.1)

pub returns-clause-shared : goal.returns-clause-shared
returns-clause-shared g c =
    let o = c.in-Some.ensures in
    let w = c.in-Some-take_whole.ensures in
    shared c.args.self.now.book.table c.args.start.done c.args.self.now.book.harts c.args.seat.now c.open_round.new.s c.work_beside-start.new.seat c.take_whole.new.s c.in-Some-take_whole.history.items
    o.seat o.seen o.round c.work_beside-start.ensures.kept w.seat w.round w.seen w.whole
