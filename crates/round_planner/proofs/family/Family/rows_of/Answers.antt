use Rattle.std.proofs.Common.{ℕ, Vec, Global, Result, Ok, Err, IfOk, length, ◌∙◌, ap, arith}
use Rattle.std.proofs.lemmas.List.{length-map}
use Rattle.pages.specs.declared.out_of_memory.OutOfMemory.{OutOfMemory}
use Rattle.round_planner.specs.Causes.{checked}
use Rattle.round_planner.proofs.Rows.{length-plan_rows, rows_of_plan, rows_pass}
use Rattle.round_planner.proofs.family.Family.rows_of.Goals as goal

abbrev Rows : Type 0
Rows = Vec (Vec ℕ Global) Global

on_rows : (r : Result Rows OutOfMemory) (P Q : Rows → Type 0) → ((v : Rows) → P v → Q v) → IfOk r P → IfOk r Q
on_rows (Ok v) P Q f h = f v h
on_rows (Err e) P Q f h = tt

pub returns : goal.returns
returns c = record {
  rows = on_rows c.rows.result _ _ (λ v e. rows_of_plan c.args.self.now c.args.number c.row_count.result _ e c.row_count.ensures.count) c.rows.ensures;
  some =
      on_rows c.rows.result _ _
      (λ v e. omega (arith, ap length e, length-map v.items (λ (r : Vec ℕ Global). r.items), length-plan_rows c.args.self.now c.args.number c.row_count.result, c.row_count.ensures.some))
      c.rows.ensures;
  accepted = on_rows c.rows.result _ _ (λ v e. ap (checked c.args.self.now.harts) e ∙ rows_pass c.args.self.now c.args.number c.row_count.result c.row_count.ensures.few) c.rows.ensures;
}
