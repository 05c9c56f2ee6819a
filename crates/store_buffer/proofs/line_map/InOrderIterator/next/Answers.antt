use Rattle.std.proofs.Common.{◌<◌, ℕ, List, All, length, subst}
use Rattle.std.specs.Map.{values_of}
use Rattle.std.proofs.lemmas.List.Elements.{All-tail}
use Rattle.store_buffer.proofs.line_map.InOrderIterator.next.Goals as goal

pub invariant_of-self-2 : goal.invariant_of-self-2
invariant_of-self-2 c =
    let ls = c.self.inside.lines.now in
    let within = subst (λ (es : List (ℕ × ℕ)). All (λ p. p < length ls) (values_of es)) c.in_ok-number.ensures.steps c.self.invariant in
    All-tail (λ p. p < length ls) c.in_ok-number.index.now (values_of c.next.new.self) within
