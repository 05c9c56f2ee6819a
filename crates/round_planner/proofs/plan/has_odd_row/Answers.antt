use Rattle.std.proofs.Common.{sym, ◌∙◌, rules, tests}
use Rattle.std.proofs.lemmas.Iterator.{YieldsList-from_slice}
use Rattle.std.proofs.lemmas.Iterator.Search.{any_from_yields_List}
use Rattle.round_planner.specs.Rows.{is_odd_row}
use Rattle.round_planner.proofs.Checks.{list_any_map}
use Rattle.round_planner.proofs.plan.has_odd_row.Goals as goal

pub returns : goal.returns
returns c =
    any_from_yields_List (λ r. is_odd_row c.args.harts r.items) _ _ c.any.result c.any.ensures.ran (YieldsList-from_slice c.args.rows.now cc) (λ x b q k. search (rules, tests))
    ∙ sym (list_any_map (is_odd_row c.args.harts) (λ r. r.items) c.args.rows.now)
