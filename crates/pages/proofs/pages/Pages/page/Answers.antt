use Rattle.std.proofs.Common.{◌≡◌, ◌<◌, ap, rules, length, get_or}
use Rattle.pages.specs.Flat.{absent}
use Rattle.pages.specs.Paged.{Paged}
use Rattle.pages.proofs.PageBytes.{page_lent}
use Rattle.pages.proofs.pages.Pages.page.Goals as goal

pub returns-in-Some-clause-bytes : goal.returns-in-Some-clause-bytes
returns-in-Some-clause-bytes c =
    let ps = c.self.inside.parts.items in
    let inside : c.args.page < length ps = search rules in
    let part : c.in-Some.part.now ≡ get_or ps c.args.page absent = search rules in
    page_lent ps c.args.self.now.memory.bytes c.args.page (length c.args.self.now.ready) c.in-Some.part.now c.bytes.result (ap (λ (h : Paged). h.memory.bytes) c.self.view_is) inside part c.bytes.ensures
