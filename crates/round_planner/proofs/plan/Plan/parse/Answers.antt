use Rattle.std.proofs.Common.{arith}
use Rattle.std.proofs.lemmas.Result.{err_from_is_err_and}
use Rattle.round_planner.proofs.Checks.{exact, none_stands, not_read, numbers_read, rows_clear, rows_refused, some_read}
use Rattle.round_planner.proofs.plan.Plan.parse.Goals as goal

pub returns-in_err-rows-clause-refused : goal.returns-in_err-rows-clause-refused
returns-in_err-rows-clause-refused c =
    let p = err_from_is_err_and c.from_residual.result c.from_residual.ensures.1 in
    rw (p.1, p.2) (not_read c.args.harts c.args.text.now _ c.in_err-rows.ensures)

pub returns-in_err-rows-clause-exact : goal.returns-in_err-rows-clause-exact
returns-in_err-rows-clause-exact c =
    let p = err_from_is_err_and c.from_residual.result c.from_residual.ensures.1 in
    rw (p.1, p.2) (λ cause h. exact c.args.harts c.args.text.now _ cause (not_read c.args.harts c.args.text.now _ c.in_err-rows.ensures) h)

pub returns-in_err-check_rows-clause-refused : goal.returns-in_err-check_rows-clause-refused
returns-in_err-check_rows-clause-refused c =
    let p = err_from_is_err_and c.from_residual-in_err-check_rows.result c.from_residual-in_err-check_rows.ensures.1 in
    rw (p.1, p.2) (λ _. rows_refused _ _ _ c.args.harts c.args.text.now _ c.deref.ensures.value c.in_ok-rows.ensures c.in_err-check_rows.ensures)

pub returns-in_err-check_rows-clause-exact : goal.returns-in_err-check_rows-clause-exact
returns-in_err-check_rows-clause-exact c =
    let p = err_from_is_err_and c.from_residual-in_err-check_rows.result c.from_residual-in_err-check_rows.ensures.1 in
    rw (p.1, p.2) (λ cause h. exact c.args.harts c.args.text.now _ cause
    (λ _. rows_refused _ _ _ c.args.harts c.args.text.now _ c.deref.ensures.value c.in_ok-rows.ensures c.in_err-check_rows.ensures) h)

pub invariant_of-result : goal.invariant_of-result
invariant_of-result c =
    let k = rows_clear _ _ _ c.args.harts _ c.deref.ensures.value c.in_ok-check_rows.ensures in
    record {
      some_harts = omega (arith, c.requires.some_harts);
      few_harts = omega (arith, c.requires.few_harts);
      some_rows = some_read c.args.text.now _ c.in_ok-rows.ensures;
      few_rows = k.few;
      in_range = k.in_range;
      sized = k.sized;
      some_budget = omega arith;
      few_budget = omega arith;
    }

pub returns-clause-rows : goal.returns-clause-rows
returns-clause-rows c =
    numbers_read c.args.harts c.args.text.now _ c.in_ok-rows.ensures (rows_clear _ _ _ c.args.harts _ c.deref.ensures.value c.in_ok-check_rows.ensures)

pub returns-clause-accepted : goal.returns-clause-accepted
returns-clause-accepted c = λ cause.
    none_stands c.args.harts c.args.text.now _ cause c.in_ok-rows.ensures (rows_clear _ _ _ c.args.harts _ c.deref.ensures.value c.in_ok-check_rows.ensures)

pub returns-clause-exact : goal.returns-clause-exact
returns-clause-exact c = λ cause h. absurd (none_stands c.args.harts c.args.text.now _ cause c.in_ok-rows.ensures
    (rows_clear _ _ _ c.args.harts _ c.deref.ensures.value c.in_ok-check_rows.ensures) h.stands)
