use Rattle.endings_finder.specs.AllEndings.{guest_from}
use Rattle.endings_finder.proofs.Confirmed.{one_more}
use Rattle.endings_finder.proofs.confirming.Confirmed.add.Goals as goal

pub returns-in_ok-put-in-Some : goal.returns-in_ok-put-in-Some
returns-in_ok-put-in-Some c =
    let g = c.args.guest.now in
    let old = c.args.self.now in
    let new = c.put.new.self in
    one_more (guest_from g.program.now g.scripted) g.ranges.now g.keeps old.endings.items new.endings.items old.executions.items new.executions.items c.in-Some.ending
    c.in_ok-put-in-Some.ensures.endings c.in_ok-put-in-Some.ensures.executions (rw c.in-Some.is at c.in_ok-ending.ensures) c.requires
