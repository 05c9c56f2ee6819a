use Rattle.std.proofs.Common.{Bool, false, subst}
use Rattle.std.specs.Prelude.{IsTrue}
use Rattle.hunt_table.proofs.Whole.{is_none, is_same}
use Rattle.hunt_table.proofs.reading.read_table.Goals as goal

pub returns-then-branch-clause-only : goal.returns-then-branch-clause-only
returns-then-branch-clause-only c = λ h rows good e. is_same h rows c.in_ok-table.table c.args.text.now good e c.in_ok-table.ensures

pub returns-then-branch-2-clause-only : goal.returns-then-branch-2-clause-only
returns-then-branch-2-clause-only c = λ h rows good e. is_same h rows c.in_ok-table.table c.args.text.now good e c.in_ok-table.ensures

pub returns-clause-only : goal.returns-clause-only
returns-clause-only c = λ h rows good e.
    absurd (is_none h rows c.in_ok-table.table c.args.text.now good e c.in_ok-table.ensures
    (λ q. let no : IsTrue false = subst (λ (b : Bool). IsTrue b) c.if-branch.false (c.in_ok-is_text_of.ensures.1 q) in cc)
    (λ q. let no : IsTrue false = subst (λ (b : Bool). IsTrue b) c.if-branch-2.false (c.in_ok-is_text_of-2.ensures.1 q) in cc))
