use Rattle.std.proofs.Common.{ℕ, ◌<◌, ap, arith, get_or, rules, subst, sym, ◌∙◌}
use Rattle.execution_file.specs.Sorting.{AreOf}
use Rattle.execution_file.specs.Views.{turn_view}
use Rattle.execution_file.specs.declared.operations.Operations.{Operations}
use Rattle.execution_file.proofs.NamedTurns.{sorted_or_none}
use Rattle.execution_file.proofs.naming.take.Goals as goal

pub returns-clause-names : goal.returns-clause-names
returns-clause-names c = λ t g sorted.
    let u = turn_view c.args.turn.now in
    let all = c.args.all.now.items in
    let was = c.index_mut.result.now in
    let few : u.hart < 256 = search rules in
    sorted_or_none t g u c.from.result all c.take.new.self c.take.result c.from.ensures few sorted
    (c.take.ensures t g (subst (λ (o : Operations). AreOf t g u.hart o) (sym (c.index_mut.ensures.value ∙ ap (λ (n : ℕ). get_or all n was) c.from.ensures)) (sorted.each u.hart few was)))
