use Rattle.std.proofs.Common.{◌≡◌, ◌<◌, ◌≤◌, ◌%◌, ◌/◌, ◌∙◌, Ok, ap, rules, length, get_or}
use Rattle.pages.specs.Flat.{absent, full}
use Rattle.pages.specs.Memory.{loaded, value_at, width_bytes}
use Rattle.pages.specs.Paged.{Paged}
use Rattle.pages.proofs.Accesses.{load_inside, load_misaligned, load_outside}
use Rattle.pages.proofs.pages.Pages.read.Goals as goal

pub returns-then-address-bytes-ne0-clause-value : goal.returns-then-address-bytes-ne0-clause-value
returns-then-address-bytes-ne0-clause-value c = load_misaligned c.args.self.now.memory c.args.address c.args.width (λ h. c.if-address-bytes-ne0.true (ap (λ n. c.args.address % n) c.bytes.ensures ∙ h))

pub returns-in-Some-clause-value : goal.returns-in-Some-clause-value
returns-in-Some-clause-value c =
    let ps = c.self.inside.parts.items in
    let aligned : c.args.address % width_bytes c.args.width ≡ 0 = search rules in
    let inside : c.args.address / 4096 < length ps = search rules in
    let part : c.in-Some.part.now ≡ get_or ps (c.args.address / 4096) absent = search rules in
    ap (λ v. Ok v) (c.number.ensures.value ∙ ap (λ q. value_at (full q) (c.args.address % 4096) c.args.width) part)
    ∙ load_inside ps c.self.inside.code.items c.args.address c.args.width aligned inside
    ∙ ap (λ (h : Paged). loaded h.memory c.args.address c.args.width) c.self.view_is

pub returns-in-None-clause-value : goal.returns-in-None-clause-value
returns-in-None-clause-value c =
    let ps = c.self.inside.parts.items in
    let aligned : c.args.address % width_bytes c.args.width ≡ 0 = search rules in
    let outside : length ps ≤ c.args.address / 4096 = search rules in
    load_outside ps c.self.inside.code.items c.args.address c.args.width aligned outside
    ∙ ap (λ (h : Paged). loaded h.memory c.args.address c.args.width) c.self.view_is
