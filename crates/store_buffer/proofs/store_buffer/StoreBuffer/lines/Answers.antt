use Rattle.std.proofs.Common.{◌∙◌, ◌<◌, ◌%◌, ◌^◌, ◌≡◌, ℕ, List, All, ap, sym, subst}
use Rattle.store_buffer.specs.declared.line.Line.{Line}
use Rattle.store_buffer.specs.Held.{AllNear}
use Rattle.store_buffer.specs.Lines.{lent_bytes, lines_bytes}
use Rattle.store_buffer.proofs.LineFirst.{addressed_near, lent_is}
use Rattle.store_buffer.proofs.store_buffer.StoreBuffer.lines.Goals as goal

pub returns-clause-bytes : goal.returns-clause-bytes
returns-clause-bytes c = ap lent_bytes c.new.ensures ∙ lent_is c.iter.result ∙ ap lines_bytes c.iter.ensures ∙ c.self.view_is

pub returns-clause-aligned : goal.returns-clause-aligned
returns-clause-aligned c =
    let near : AllNear c.iter.result = subst (λ (es : List (ℕ × Line)). AllNear es) (sym c.iter.ensures) c.self.invariant.near in
    subst (λ (es : List (ℕ × Line)). All (λ (e : ℕ × Line). (e.0 % 64 ≡ 0) × (e.0 < 2 ^ 64)) es) (sym c.new.ensures) (addressed_near c.iter.result near)
