use Rattle.std.proofs.Common.{◌∙◌, ap, refl, sym}
use Rattle.std.proofs.lemmas.Result.{err_from_is_err_and}
use Rattle.elf_loader.specs.Image.{Loaded}
use Rattle.fence_finder.proofs.Told.{searched_by, searched_so, shown_of}
use Rattle.fence_finder.proofs.finding.FenceFinder.searched.Goals as goal

pub returns-in_err-found-clause-errors : goal.returns-in_err-found-clause-errors
returns-in_err-found-clause-errors g c = λ _.
    let p = err_from_is_err_and c.from_residual-in_err-found.result c.from_residual-in_err-found.ensures.1 in
    rw (p.1, p.2) (c.in_err-found.ensures.errors c.args.settings.hunt c.args.image.now)

pub returns-clause-shown : goal.returns-clause-shown
returns-clause-shown g c =
    let s = c.args.settings in
    let file = c.args.image.now in
    let found = c.in_ok-found.found in
    let harts = c.deref.ensures.value ∙ c.in_ok-harts.ensures.harts in
    let laid = c.in_ok-laid.ensures in
    let entry = c.entry.ensures.entry ∙ ap (λ (i : Loaded). i.entry) (sym laid) in
    searched_so s file c.args.input.now found c.told.result.table c.told.ensures c.in_ok-found.ensures.few
    (shown_of s.hunt file c.args.input.now c.in_ok-laid.laid c.entry.result c.deref.result.now found.findings.missing.items (laid ∙ c.in_ok-loaded.ensures.image) entry harts
    c.in_ok-found.ensures.shown)

pub returns-clause-searched : goal.returns-clause-searched
returns-clause-searched g c =
    let table = c.told.result.table in
    let laid = c.in_ok-laid.ensures in
    let entry = c.entry.ensures.entry ∙ ap (λ (i : Loaded). i.entry) (sym laid) in
    searched_by g.E.Executer.comes_to _ c.args.settings c.args.image.now c.args.input.now table c.entry.result (c.in_ok-found.ensures.told table c.told.ensures) (laid ∙ c.in_ok-loaded.ensures.image) refl
    entry (c.deref.ensures.value ∙ c.in_ok-harts.ensures.harts)
