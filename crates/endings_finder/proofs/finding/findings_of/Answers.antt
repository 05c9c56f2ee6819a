use Rattle.std.proofs.Common.{◌≡◌, ℕ, List, subst}
use Rattle.endings_finder.specs.AllEndings.{HasAll, guest_from}
use Rattle.endings_table.specs.declared.found_ending.FoundEnding.{FoundEnding}
use Rattle.endings_table.specs.declared.others.Others.TheVariants.{Absent}
use Rattle.endings_finder.proofs.finding.findings_of.Goals as goal

pub returns-clause-all : goal.returns-clause-all
returns-clause-all g c =
    let guest = c.args.guest.now in
    let others = c.in_ok-others.others in
    subst (λ (k : ℕ). others ≡ Absent → HasAll (guest_from guest.program.now guest.scripted) guest.ranges.now k c.in_ok-proposals.proposals.confirmed.endings.items) c.new-reach.ensures
    (subst (λ (es : List FoundEnding). others ≡ Absent → HasAll (guest_from guest.program.now guest.scripted) guest.ranges.now c.new-reach.result.steps es) c.as_slice-endings.ensures.value c.in_ok-others.ensures)
