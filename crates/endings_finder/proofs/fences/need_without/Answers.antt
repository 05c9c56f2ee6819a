use Rattle.std.proofs.Common.{List, subst, sym}
use Rattle.endings_finder.specs.AllEndings.{AreAllowed, guest_from}
use Rattle.endings_finder.proofs.Needs.{news_so, unneeded_so}
use Rattle.endings_table.specs.declared.found_ending.FoundEnding.{FoundEnding}
use Rattle.endings_finder.proofs.fences.need_without.Goals as goal

pub returns-in-Some : goal.returns-in-Some
returns-in-Some g c =
    let guest = c.args.guest.now in
    let without_it = guest_from c.args.program.now guest.scripted in
    let allowed = subst (λ (es : List FoundEnding). AreAllowed without_it guest.ranges.now es) (sym c.deref.ensures.value) c.in_ok-proposals.ensures.allowed in
    news_so c.args.reach.steps (guest_from guest.program.now guest.scripted) without_it guest.ranges.now c.args.endings.now c.deref.result.now c.in-Some.need c.requires.all allowed
    (rw c.in-Some.is at c.news_in.ensures)

pub returns-in-Absent : goal.returns-in-Absent
returns-in-Absent g c =
    let guest = c.args.guest.now in
    unneeded_so c.args.reach.steps (guest_from guest.program.now guest.scripted) (guest_from c.args.program.now guest.scripted) guest.ranges.now c.args.endings.now c.requires.allowed
    (c.in_ok-others_than.ensures c.in-Absent.is)
