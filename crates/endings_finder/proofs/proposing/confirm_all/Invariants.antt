use Rattle.endings_finder.specs.AllEndings.{AreConfirmed, guest_from}
use Rattle.endings_finder.proofs.proposing.confirm_all.Given as goal

-- what is confirmed so far
abbrev pub invariant-loop-found : goal.invariant-loop-found
invariant-loop-found l = AreConfirmed (guest_from l.guest.program.now l.guest.scripted) l.guest.ranges.now l.guest.keeps l.confirmed.endings.items l.confirmed.executions.items
