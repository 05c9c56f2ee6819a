use Rattle.std.proofs.Common.{List, ap, refl, rules, subst, ◌∙◌, sym, ◌≡◌, ℕ, length, ◌<◌, arith, get_or, slice_set}
use Rattle.std.proofs.lemmas.List.{get_or_default}
use Rattle.std.proofs.lemmas.Result.{on_ok_weaker}
use Rattle.execution_file.specs.Sorting.{IsAdded}
use Rattle.execution_file.specs.declared.operations.Operations.{Operations}
use Rattle.execution_file.proofs.naming.add_operation.Goals as goal

pub returns : goal.returns
returns c =
    let all = c.args.all.now.items in
    let new = c.add.new.self in
    let was = c.index_mut.result.now in
    let few : c.from.result < length all = search rules in
    let at : was ≡ get_or all c.args.hart new =
    c.index_mut.ensures.value ∙ get_or_default all c.from.result was new few ∙ ap (λ (n : ℕ). get_or all n new) c.from.ensures in
    on_ok_weaker c.add.result (λ added. (
      new,
      ap (λ (n : ℕ). slice_set all n new) c.from.ensures,
      subst (λ (o : Operations). IsAdded c.args.index o new) at added,
    )) c.add.ensures
