use Rattle.std.proofs.Common.{◌≡◌, ◌+◌, ◌==◌, if◌then◌else◌, ◌∙◌, ap, arith, below_more, get_or, length, replicate, rules, subst, sym, true, IsTrue}
use Rattle.std.proofs.lemmas.List.{length-replicate}
use Rattle.round_schedule.specs.Positions.{event}
use Rattle.memory_order.specs.Operations.{is_operation}
use Rattle.memory_order.specs.Orders.{order_position}
use Rattle.memory_order.proofs.Facts.{within}
use Rattle.rule_checker.specs.declared.annotated.KindBounds.{KindBounds}
use Rattle.rule_checker.specs.Kinds.{RespectsKindsAt, kinds_after, kinds_of, no_kinds}
use Rattle.memory_order.proofs.Harts.{alike_at_first}
use Rattle.rule_checker.proofs.Firsts.{first_at}
use Rattle.rule_checker.proofs.KindBounds.{Kinds, allowed_from_kinds, kinds_from_allowed, kinds_none, kinds_step}
use Rattle.rule_checker.proofs.annotated.first_by_kind.Goals as goal
use Rattle.rule_checker.proofs.annotated.first_by_kind.Goals.{else-operation-via-then-operation+else-not-allows, else-operation-via-else-operation}

pub loop-i-init : goal.loop-i-init
loop-i-init c =
    let t = c.args.events.now in
    let pos = order_position c.args.order.now in
    let none : c.in_ok-harts.harts.items ≡ replicate 256 no_kinds = c.in_ok-harts.ensures.items_if_clones_equal (λ y e. search rules) in
    record {
      harts = ap length none ∙ length-replicate 256 no_kinds;
      bounded = λ h. subst (Kinds t pos h 0) (sym (ap (λ v. get_or v h no_kinds) none ∙ alike_at_first 256 h no_kinds)) (kinds_none t pos h);
      respected = λ b l op a oa before rule. absurd (omega (arith, l));
    }

pub returns-then-not-allows : goal.returns-then-not-allows
returns-then-not-allows c = first_at c.args.events.now (RespectsKindsAt c.args.events.now (order_position c.args.order.now)) c.loop-i.i c.loop-i.invariant.respected (λ respected.
    let op : is_operation (event c.args.events.now c.loop-i.i) ≡ true = ap is_operation (sym c.event_at-event.ensures.at) ∙ sym c.is_operation-operation.ensures ∙ c.if-operation.true in
    let a = allowed_from_kinds c.args.events.now (order_position c.args.order.now) c.loop-i.i c.position_of-position.result c.event_at-event.result c.of_hart-bounds.result
    c.event_at-event.ensures.at c.position_of-position.ensures.at
    (subst (Kinds c.args.events.now (order_position c.args.order.now) c.event_at-event.result.hart c.loop-i.i) (sym (c.of_hart-bounds.ensures no_kinds)) (c.loop-i.invariant.bounded c.event_at-event.result.hart))
    (respected op) in
    let yes : IsTrue c.allows.result = c.allows.ensures.1 a in
    cc)

pub loop-i-preserved : goal.loop-i-preserved
loop-i-preserved c =
    let t = c.args.events.now in
    let pos = order_position c.args.order.now in
    let i = c.loop-i.i in
    let e = c.event_at-event.result in
    let b = c.of_hart-bounds.result in
    let known = subst (Kinds t pos e.hart i) (sym (c.of_hart-bounds.ensures no_kinds)) (c.loop-i.invariant.bounded e.hart) in
    let here : is_operation (event t i) ≡ true → RespectsKindsAt t pos i = λ op. elim c.else-operation.branch [
      | else-operation-via-then-operation+else-not-allows w ↦
          kinds_from_allowed t pos i c.position_of-position.result e b c.event_at-event.ensures.at c.position_of-position.ensures.at known (w.allows.ensures.0 w.if-not-allows.false)
      | else-operation-via-else-operation w ↦
          absurd (let no = sym c.is_operation-operation.ensures ∙ w.if-operation.false in let same = ap is_operation c.event_at-event.ensures.at in cc)
    ] in
    record {
      harts = c.set_of_hart.ensures.len ∙ c.loop-i.invariant.harts;
      bounded = kinds_step t pos i (c.position_of-position.result + 1) e b (λ h. kinds_of c.loop-i.harts.items h) (λ h. kinds_of c.set_of_hart.new.harts.items h)
          c.event_at-event.ensures.at (ap (λ n. n + 1) c.position_of-position.ensures.at) (c.of_hart-bounds.ensures no_kinds)
          (λ h. c.set_of_hart.ensures.set no_kinds h ∙ ap (λ (x : KindBounds). if h == c.event_at-event.result.hart then x else kinds_of c.loop-i.harts.items h)
          (c.kinds_after-next.ensures ∙ ap (λ o. kinds_after b e.access o (c.position_of-position.result + 1)) c.is_operation-operation.ensures))
          c.loop-i.invariant.bounded;
      respected = below_more _ _ c.loop-i.invariant.respected here;
    }

pub returns : goal.returns
returns c = λ b op. c.loop-i.invariant.respected b (let l = within c.args.events.now b op in omega (arith, l)) op
