use Rattle.std.proofs.Common.{◌≡◌, ◌∙◌, ◌<◌, ℕ, List, Some, None, ap, length, rules, subst, sym}
use Rattle.std.proofs.lemmas.List.{get_or_default}
use Rattle.std.specs.Prelude.{option_map}
use Rattle.store_buffer.specs.declared.line.Line.{Line}
use Rattle.store_buffer.specs.declared.slots.Numbered.{Numbered}
use Rattle.store_buffer.specs.Lines.{line_of}
use Rattle.store_buffer.specs.Slots.{blank, line_in, number_in}
use Rattle.store_buffer.proofs.LineMaps.{found_listed, line_listed, none_listed}
use Rattle.store_buffer.proofs.line_map.LineMap.get.Goals as goal

pub returns-in_err-index : goal.returns-in_err-index
returns-in_err-index c =
    let ls = c.self.inside.lines.items in
    let es = c.self.inside.indices.entries in
    let none = subst (λ (l : List Numbered). (p : ℕ) → p < length l → number_in l p ≡ c.args.number → ⊥) c.deref.ensures.value c.in_err-index.ensures.none in
    let missing : None ≡ line_of c.args.self.now c.args.number =
    ap (option_map (line_in ls)) (none_listed ls es c.args.number c.self.invariant.placed none) ∙ sym (line_listed ls es c.args.number) ∙ ap (λ (xs : List (ℕ × Line)). line_of xs c.args.number) c.self.view_is in
    search (rules, missing, c.from_residual.ensures)

pub returns : goal.returns
returns c =
    let ls = c.self.inside.lines.items in
    let es = c.self.inside.indices.entries in
    let index = c.in_ok-index.index in
    let found = subst (λ (l : List Numbered). (index < length l) × (number_in l index ≡ c.args.number)) c.deref.ensures.value c.in_ok-index.ensures.some in
    let at = c.index.ensures ∙ get_or_default ls index c.index.result.now blank found.0 in
    ap (λ (x : Numbered). Some x.line) at ∙ ap (option_map (line_in ls)) (found_listed ls es c.args.number index c.self.invariant.placed found.0 found.1) ∙ sym (line_listed ls es c.args.number) ∙ ap (λ (xs : List (ℕ × Line)). line_of xs c.args.number) c.self.view_is
