use Rattle.std.proofs.Common.{◌≡◌, ◌<◌, ◌∙◌, ℕ, List, [], ◌∷◌, All, length, refl, sym, arith}
use Rattle.std.specs.Map.{values_of}
use Rattle.store_buffer.specs.declared.slots.Numbered.{Numbered}
use Rattle.store_buffer.specs.LineMaps.{lines_in}
use Rattle.store_buffer.proofs.line_map.LineMap.is_empty.Goals as goal

no_lines : (ls : List Numbered) (es : List (ℕ × ℕ)) → length ls ≡ 0 → All (λ p. p < length ls) (values_of es) → lines_in ls es ≡ []
no_lines ls [] none within = refl
no_lines ls (e ∷ es) none within = absurd (omega (arith, none, within 0 0 (omega arith)))

pub returns : goal.returns
returns c = λ empty.
    let none : length c.self.inside.lines.items ≡ 0 = grind (arith, empty, c.is_empty.ensures) in
    sym c.self.view_is ∙ no_lines c.self.inside.lines.items c.self.inside.indices.entries none c.self.invariant.placed.within
