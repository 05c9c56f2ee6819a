use Rattle.std.proofs.Common.{◌<◌, ◌%◌, ◌/◌, ◌∙◌, ap, sym, subst, rules, length, get_or}
use Rattle.std.proofs.lemmas.List.{get_or_read}
use Rattle.pages.specs.Flat.{absent, flat, full}
use Rattle.pages.specs.Memory.{number_at}
use Rattle.pages.specs.Paged.{Paged}
use Rattle.pages.proofs.Accesses.{byte_in_page, page_below}
use Rattle.pages.proofs.pages.Pages.byte.Goals as goal

pub index-requires : goal.index-requires
index-requires c =
    let within : c.args.address < length (flat c.self.inside.parts.items) = subst (λ (h : Paged). c.args.address < length h.memory.bytes) (sym c.self.view_is) c.requires in
    let below = page_below c.self.inside.parts.items c.args.address within in
    search rules

pub returns : goal.returns
returns c =
    let ps = c.self.inside.parts.items in
    let within : c.args.address < length (flat ps) = subst (λ (h : Paged). c.args.address < length h.memory.bytes) (sym c.self.view_is) c.requires in
    let below = page_below ps c.args.address within in
    let part = get_or_read ps (c.args.address / 4096) c.index.result.now below c.index.ensures absent in
    c.number.ensures.value ∙ ap (λ q. number_at (full q) (c.args.address % 4096) 1) part
    ∙ byte_in_page ps c.args.address below
    ∙ ap (λ (h : Paged). get_or h.memory.bytes c.args.address 0) c.self.view_is
