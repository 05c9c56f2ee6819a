use Rattle.std.proofs.Common.{◌<◌, ◌^◌, ◌∷◌, ℕ, List, subst}
use Rattle.std.specs.Map.{keys_of}
use Rattle.std.proofs.lemmas.List.Elements.{All-tail}
use Rattle.store_buffer.specs.declared.line.Line.{Line}
use Rattle.store_buffer.specs.Held.{AllNear}
use Rattle.store_buffer.proofs.lines.LinesIterator.next.Goals as goal

pub invariant_of-self-2 : goal.invariant_of-self-2
invariant_of-self-2 c =
    let near : AllNear ((c.in_ok-number.number, c.in_ok-number.line.now) ∷ c.next.new.self) = subst (λ (es : List (ℕ × Line)). AllNear es) c.in_ok-number.ensures.steps c.self.invariant in
    All-tail (λ k. k < 2 ^ 58) c.in_ok-number.number (keys_of c.next.new.self) near
