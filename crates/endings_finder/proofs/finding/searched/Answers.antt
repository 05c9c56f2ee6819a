use Rattle.std.proofs.Common.{◌≡◌, ◌∙◌, All, List, subst}
use Rattle.elf_loader.specs.Image.{Loaded}
use Rattle.guest_rounds.specs.Guests.{opening_guest}
use Rattle.round_planner.specs.Settings.{image_of}
use Rattle.endings_finder.specs.AllEndings.{AreConfirmed, HasAll, guest_of}
use Rattle.endings_finder.specs.Fences.{IsToldFence}
use Rattle.endings_table.specs.declared.others.Others.TheVariants.{Absent}
use Rattle.hunt_table.specs.declared.seen_range.SeenRange.{SeenRange}
use Rattle.endings_finder.proofs.finding.searched.Goals as goal

pub returns-clause-confirmed : goal.returns-clause-confirmed
returns-clause-confirmed g c =
    let s = c.args.settings.now in
    let f = c.in_ok-findings.findings.confirmed in
    subst (λ (rs : List SeenRange). AreConfirmed (guest_of s.hunt c.args.image.now c.args.input.now) rs s.keeps f.endings.items f.executions.items) c.deref.ensures.value
    (subst (λ (i : Loaded). AreConfirmed (opening_guest i c.args.input.now s.hunt.harts) c.deref.result.now s.keeps f.endings.items f.executions.items)
    (c.in_ok-program.ensures ∙ c.in_ok-loaded.ensures.image) c.in_ok-findings.ensures.confirmed)

pub returns-clause-all : goal.returns-clause-all
returns-clause-all g c =
    let s = c.args.settings.now in
    let f = c.in_ok-findings.findings in
    subst (λ (rs : List SeenRange). f.others ≡ Absent → HasAll (guest_of s.hunt c.args.image.now c.args.input.now) rs s.steps f.confirmed.endings.items) c.deref.ensures.value
    (subst (λ (i : Loaded). f.others ≡ Absent → HasAll (opening_guest i c.args.input.now s.hunt.harts) c.deref.result.now s.steps f.confirmed.endings.items)
    (c.in_ok-program.ensures ∙ c.in_ok-loaded.ensures.image) c.in_ok-findings.ensures.all)

pub returns-clause-fences : goal.returns-clause-fences
returns-clause-fences g c =
    let s = c.args.settings.now in
    let image = image_of s.hunt.format c.args.image.now s.hunt.pages in
    let fences = c.in_ok-findings.findings.fences.items in
    subst (λ (rs : List SeenRange). All (IsToldFence s.steps image c.args.input.now s.hunt.harts rs) fences) c.deref.ensures.value
    (subst (λ (i : Loaded). All (IsToldFence s.steps i c.args.input.now s.hunt.harts c.deref.result.now) fences)
    (c.in_ok-program.ensures ∙ c.in_ok-loaded.ensures.image) c.in_ok-findings.ensures.fences)
