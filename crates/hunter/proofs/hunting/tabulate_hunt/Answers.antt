use Rattle.std.proofs.Common.{subst}
use Rattle.hunter.specs.Hunts.{ends_from, family_of}
use Rattle.plan_hunt.specs.Extents.{IsTableOf}
use Rattle.plan_hunt.specs.declared.extent.Extent.{Extent}
use Rattle.round_planner.specs.Families.{family_plan}
use Rattle.hunter.proofs.Runs.{hunted_so}
use Rattle.hunter.proofs.hunting.tabulate_hunt.Goals as goal

pub returns-clause-table : goal.returns-clause-table
returns-clause-table g c =
    let guest = c.in_ok-guest in
    hunted_so c.args.settings.now guest.guest.settings.now c.args.image.now c.args.input.now guest.guest.input.now guest.guest.image
    c.in_ok-tabulate.field-0.done c.in_ok-tabulate.field-0.rows.items guest.ensures.settings guest.ensures.input guest.ensures.image
    (subst (λ (x : Extent). IsTableOf (λ n. ends_from guest.guest.settings.now guest.guest.image guest.guest.input.now (family_plan (family_of guest.guest.settings.now) n)) x
    c.in_ok-tabulate.field-0.done c.in_ok-tabulate.field-0.rows.items) c.extent.ensures c.in_ok-tabulate.ensures)
