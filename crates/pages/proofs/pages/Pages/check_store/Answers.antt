use Rattle.std.proofs.Common.{◌≡◌, ◌<◌, ◌≤◌, ◌%◌, ◌/◌, ◌∙◌, ap, sym, rules, length, true, false}
use Rattle.pages.specs.Memory.{any_code, store_fault, width_bytes}
use Rattle.pages.specs.Paged.{Paged}
use Rattle.pages.proofs.Accesses.{store_inside, store_misaligned, store_outside}
use Rattle.pages.proofs.pages.Pages.check_store.Goals as goal

pub returns-then-address-bytes-ne0 : goal.returns-then-address-bytes-ne0
returns-then-address-bytes-ne0 c = store_misaligned c.args.self.now.memory c.args.address c.args.width (λ h. c.if-address-bytes-ne0.true (ap (λ n. c.args.address % n) c.bytes.ensures ∙ h))

pub returns-then-address-len : goal.returns-then-address-len
returns-then-address-len c =
    let ps = c.self.inside.parts.items in
    let aligned : c.args.address % width_bytes c.args.width ≡ 0 = search rules in
    let outside : length ps ≤ c.args.address / 4096 = search rules in
    sym (ap (λ (h : Paged). store_fault h.memory c.args.address c.args.width) c.self.view_is)
    ∙ store_outside ps c.self.inside.code.items c.args.address c.args.width aligned outside

pub returns-then-touches_code : goal.returns-then-touches_code
returns-then-touches_code c =
    let ps = c.self.inside.parts.items in
    let code = c.self.inside.code.items in
    let aligned : c.args.address % width_bytes c.args.width ≡ 0 = search rules in
    let inside : c.args.address / 4096 < length ps = search rules in
    let touched : any_code code c.args.address (width_bytes c.args.width) ≡ true = search rules in
    sym (ap (λ (h : Paged). store_fault h.memory c.args.address c.args.width) c.self.view_is)
    ∙ store_inside ps code c.args.address c.args.width true aligned inside touched

pub returns : goal.returns
returns c =
    let ps = c.self.inside.parts.items in
    let code = c.self.inside.code.items in
    let aligned : c.args.address % width_bytes c.args.width ≡ 0 = search rules in
    let inside : c.args.address / 4096 < length ps = search rules in
    let free : any_code code c.args.address (width_bytes c.args.width) ≡ false = search rules in
    sym (ap (λ (h : Paged). store_fault h.memory c.args.address c.args.width) c.self.view_is)
    ∙ store_inside ps code c.args.address c.args.width false aligned inside free
