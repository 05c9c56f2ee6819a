use Rattle.std.proofs.Common.{◌≡◌, ◌<◌, ◌^◌, ℕ, List, get_or, length, ◌∙◌, ap, sym, rules, subst}
use Rattle.pages.proofs.Page.{full_ready, get_or-absent, value_at-zero}
use Rattle.pages.specs.Flat.{full}
use Rattle.pages.specs.Memory.{value_at}
use Rattle.pages.proofs.part.Part.number_apart.Goals as goal

pub returns-then-is_empty-clause-value : goal.returns-then-is_empty-clause-value
returns-then-is_empty-clause-value c =
    let none : length c.args.self.now.bytes ≡ 0 = search rules in
    sym (value_at-zero (full c.args.self.now) (λ k. get_or-absent c.args.self.now k none) c.args.place c.args.width)

pub returns-clause-value : goal.returns-clause-value
returns-clause-value c =
    let held = c.held-bytes.ensures.bytes in
    let size : length c.args.self.now.bytes ≡ 4096 = search rules in
    let small : (k : ℕ) → get_or c.args.self.now.bytes k 0 < 2 ^ 8 = subst (λ (bs : List ℕ). (k : ℕ) → get_or bs k 0 < 2 ^ 8) held c.number_in.ensures.bytes in
    c.number_in.ensures.value ∙ ap (λ bs. value_at bs c.args.place c.args.width) (held ∙ sym (full_ready c.args.self.now size small))
