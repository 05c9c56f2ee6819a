use Rattle.std.proofs.Common.{◌≡◌, ◌∙◌, Option, MatchOption, ap, subst, sym}
use Rattle.memory_order.specs.Orders.{order_position}
use Rattle.memory_order.specs.Rvwmo.{PreservedOrderBy}
use Rattle.memory_order.specs.Dependencies.{DependencyRule}
use Rattle.rule_checker.specs.Violations.{IsFirstViolation, PreservedAt, earliest}
use Rattle.rule_checker.proofs.Firsts.{first_of_parts}
use Rattle.rule_checker.proofs.violation.first_violation.Goals as goal

pub returns : goal.returns
returns c =
    let t = c.args.events.now in
    let pos = order_position c.args.order.now in
    let D = DependencyRule c.args.instructions.now t pos in
    let a = c.in_ok-by_kind.by_kind in
    let b = c.in_ok-by_byte.by_byte in
    let p = c.in_ok-by_pair.by_pair in
    let d = c.in_ok-by_dependency.by_dependency in
    let e : c.earliest.result ≡ earliest (earliest a b) (earliest p d) = c.earliest.ensures ∙ ap (λ o. earliest o c.earliest-others.result) c.earliest-alone.ensures ∙ ap (λ o. earliest (earliest a b) o) c.earliest-others.ensures in
    subst (λ (o : Option _). MatchOption o (PreservedOrderBy D t pos) (IsFirstViolation t (PreservedAt D t pos))) (sym e)
    (first_of_parts c.args.instructions.now t pos a b p d c.in_ok-by_kind.ensures c.in_ok-by_byte.ensures c.in_ok-by_pair.ensures c.in_ok-by_dependency.ensures)
