use Rattle.std.proofs.Common.{◌≡◌, true, get_or, rules}
use Rattle.std.proofs.lemmas.List.{get_or_read}
use Rattle.pages.specs.Flat.{absent, is_ready}
use Rattle.pages.proofs.Readied.{already_ready}
use Rattle.pages.proofs.prepare.ready_page.Goals as goal

pub returns-then-ready-clause-ready : goal.returns-then-ready-clause-ready
returns-then-ready-clause-ready c =
    let ready : is_ready (get_or c.args.parts.now c.args.page absent) ≡ true = search (rules, get_or_read) in
    already_ready c.args.parts.now c.args.page c.requires.page ready
