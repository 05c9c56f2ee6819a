use Rattle.std.proofs.Common.{◌≡◌, ◌<◌, ◌^◌, ℕ, get_or, length, ◌∙◌, ap, sym, rules, true, arith}
use Rattle.pages.proofs.Page.{full_ready, page_own}
use Rattle.pages.specs.Flat.{Page, bytes_in, full}
use Rattle.pages.specs.Memory.{value_at}
use Rattle.pages.proofs.part.Part.number.Goals as goal

pub returns-clause-value : goal.returns-clause-value
returns-clause-value c =
    let bs = c.self.inside.own.items in
    let shared = bytes_in c.self.inside.shared (λ a. a.value.items) in
    let size : length bs ≡ 4096 = search rules in
    let small : (k : ℕ) → get_or bs k 0 < 2 ^ 8 = search (rules, c.number_in.ensures.bytes) in
    let page : Page = record { own = true; bytes = bs } in
    let same : c.number_in.result ≡ value_at bs c.args.place c.args.width = search rules in
    same ∙ ap (λ p. value_at p c.args.place c.args.width) (sym (full_ready page size small) ∙ ap full (sym (page_own bs shared (omega (arith, size))) ∙ c.self.view_is))
