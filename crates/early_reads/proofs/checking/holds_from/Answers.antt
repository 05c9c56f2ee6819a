use Rattle.std.proofs.Common.{ℕ, sym, ap, ◌∙◌}
use Rattle.own_moves.specs.Owned.{owns_of}
use Rattle.hart_step.specs.DecodedCode.{decoded}
use Rattle.early_reads.proofs.Points.{same_instruction}
use Rattle.early_reads.proofs.checking.holds_from.Goals as goal

pub returns-in-Some : goal.returns-in-Some
returns-in-Some c = λ held m opening a v at dec acting agrees.
    let is = same_instruction v.instruction c.in-Some.i (decoded c.args.pages.now.memory a.pc) dec
    (ap (λ (pc : ℕ). decoded c.args.pages.now.memory pc) at ∙ (sym c.instruction_at.ensures ∙ c.in-Some.is)) in
    c.holds_along.ensures held (owns_of c.args.owned.now) c.args.pages.now.memory c.args.hart m opening a v at is acting agrees
