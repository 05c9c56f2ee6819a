use Rattle.std.proofs.Common.{◌∙◌, ℕ, ap, sym}
use Rattle.std.proofs.lemmas.Result.{err_from_is_err_and}
use Rattle.elf_loader.specs.Image.{Loaded}
use Rattle.guest_rounds.specs.Opening.{opening_harts}
use Rattle.weak_hunter.proofs.Hunted.{hunted_so}
use Rattle.weak_hunter.proofs.hunting.tabulate_weakly.Goals as goal

pub returns-clause-table : goal.returns-clause-table
returns-clause-table g c =
    let laid = c.in_ok-laid.ensures in
    hunted_so c.args.asked.now.settings.now c.args.image.now c.args.input.now c.in_ok-laid.laid c.deref.result.now c.in_ok-tally.tally.done c.in_ok-tally.tally.rows.items (laid ∙ c.in_ok-image.ensures.image)
    (c.deref.ensures.value ∙ c.in_ok-harts.ensures.harts ∙ ap (λ (e : ℕ). opening_harts e c.args.asked.now.settings.now.harts 0 c.args.asked.now.settings.now.harts) (c.entry.ensures.entry ∙ ap (λ (i : Loaded). i.entry) (sym laid)))
    c.in_ok-tally.ensures.table

pub returns-in_err-tally-clause-errors : goal.returns-in_err-tally-clause-errors
returns-in_err-tally-clause-errors g c = λ _.
    let p = err_from_is_err_and c.from_residual-in_err-tally.result c.from_residual-in_err-tally.ensures.1 in
    rw (p.1, p.2) (c.in_err-tally.ensures.errors c.args.asked.now.settings.now c.args.image.now)
