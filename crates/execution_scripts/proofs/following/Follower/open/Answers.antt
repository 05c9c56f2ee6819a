use Rattle.std.proofs.Common.{◌≡◌, ap, arith, length, refl, replicate, rules, sym, ◌∙◌}
use Rattle.std.proofs.lemmas.List.{length-map}
use Rattle.execution.specs.Executions.{Standing}
use Rattle.execution_file.specs.Views.{hart_view}
use Rattle.execution_scripts.proofs.Counted.{as_many_opened}
use Rattle.execution_scripts.proofs.Opened.{opened_on}
use Rattle.execution_scripts.proofs.following.Follower.open.Goals as goal

pub returns-clause-on : goal.returns-clause-on
returns-clause-on c =
    let parts = c.args.parts.now in
    let count = length-map parts hart_view in
    let none : c.in_ok-used.used.items ≡ replicate (length parts) 0 = c.in_ok-used.ensures.items_if_clones_equal (λ y e. search rules) in
    let opens = c.in_ok-way.ensures.standing in
    opened_on _ (length parts) _ c.in_ok-way.ensures.way refl (omega (arith, c.requires, count))
    (as_many_opened c.args.image.now c.args.input.now (length parts) c.in_ok-way.way.execution.standing opens ∙ sym count)
    (ap (λ (p : Standing). p.events) opens) (ap (λ (p : Standing). p.round) opens) none (sym count) refl
