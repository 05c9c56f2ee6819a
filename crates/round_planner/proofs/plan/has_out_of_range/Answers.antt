use Rattle.std.proofs.Common.{sym, ◌∙◌, rules, tests}
use Rattle.std.proofs.lemmas.Iterator.{YieldsList-from_slice}
use Rattle.std.proofs.lemmas.Iterator.Search.{any_from_yields_List}
use Rattle.std.specs.List.{list_any}
use Rattle.round_planner.specs.Rows.{is_out_of_range}
use Rattle.round_planner.proofs.Checks.{list_any_map}
use Rattle.round_planner.proofs.plan.has_out_of_range.Goals as goal

pub returns : goal.returns
returns c =
    any_from_yields_List (λ r. list_any is_out_of_range r.items) _ _ c.any.result c.any.ensures.ran (YieldsList-from_slice c.args.rows.now cc) (λ x b q k. search (rules, tests))
    ∙ sym (list_any_map (list_any is_out_of_range) (λ r. r.items) c.args.rows.now)
