use Rattle.std.proofs.Common.{◌≡◌, ◌+◌, ◌==◌, if◌then◌else◌, ◌∙◌, ap, arith, below_more, get_or, length, replicate, rules, subst, sym, true, IsTrue}
use Rattle.std.proofs.lemmas.List.{length-replicate}
use Rattle.round_schedule.specs.Positions.{event}
use Rattle.memory_order.specs.Operations.{is_operation}
use Rattle.memory_order.specs.Orders.{order_position}
use Rattle.memory_order.proofs.Facts.{within}
use Rattle.memory_order.specs.declared.checking.program.HartBounds.{HartBounds}
use Rattle.memory_order.specs.CheckingProgram.{RespectsAt, bounds_of, no_bounds}
use Rattle.memory_order.proofs.Harts.{alike_at_first}
use Rattle.memory_order.proofs.ProgramBounds.{Bounded, allowed_from_respected, bounded_none, bounded_step, respected_from_allowed}
use Rattle.memory_order.proofs.checking.program.respects_but_overlap.Goals as goal
use Rattle.memory_order.proofs.checking.program.respects_but_overlap.Goals.{else-is_operation-via-then-is_operation+else-not-allows, else-is_operation-via-else-is_operation}

pub loop-i-init : goal.loop-i-init
loop-i-init c =
    let t = c.args.events.now in
    let pos = order_position c.args.order.now in
    let none : c.in_ok-harts.harts.items ≡ replicate 256 no_bounds = c.in_ok-harts.ensures.items_if_clones_equal (λ y e. search rules) in
    record {
      harts = ap length none ∙ length-replicate 256 no_bounds;
      bounded = λ h. subst (Bounded t pos h 0) (sym (ap (λ v. get_or v h no_bounds) none ∙ alike_at_first 256 h no_bounds)) (bounded_none t pos h);
      respected = λ b l op a oa before rule. absurd (omega (arith, l));
    }

pub returns-then-not-allows : goal.returns-then-not-allows
returns-then-not-allows c = (
  λ h. cc,
  λ respected.
      let op : is_operation (event c.args.events.now c.loop-i.i) ≡ true = ap is_operation (sym c.event_at-event.ensures.at) ∙ sym c.is_operation.ensures ∙ c.if-is_operation.true in
      let a = allowed_from_respected c.args.events.now (order_position c.args.order.now) c.loop-i.i c.position_of-position.result c.event_at-event.result c.of_hart-bounds.result
      c.event_at-event.ensures.at c.position_of-position.ensures.at
      (subst (Bounded c.args.events.now (order_position c.args.order.now) c.event_at-event.result.hart c.loop-i.i) (sym (c.of_hart-bounds.ensures no_bounds)) (c.loop-i.invariant.bounded c.event_at-event.result.hart))
      (respected c.loop-i.i op) in
      let yes : IsTrue c.allows.result = c.allows.ensures.1 a in
      cc,
)

pub loop-i-preserved : goal.loop-i-preserved
loop-i-preserved c =
    let t = c.args.events.now in
    let pos = order_position c.args.order.now in
    let i = c.loop-i.i in
    let e = c.event_at-event.result in
    let b = c.of_hart-bounds.result in
    let known = subst (Bounded t pos e.hart i) (sym (c.of_hart-bounds.ensures no_bounds)) (c.loop-i.invariant.bounded e.hart) in
    let here : is_operation (event t i) ≡ true → RespectsAt t pos i = λ op. elim c.else-is_operation.branch [
      | else-is_operation-via-then-is_operation+else-not-allows w ↦
          respected_from_allowed t pos i c.position_of-position.result e b c.event_at-event.ensures.at c.position_of-position.ensures.at known (w.allows.ensures.0 w.if-not-allows.false)
      | else-is_operation-via-else-is_operation w ↦
          absurd (let no = ap is_operation c.event_at-event.ensures.at in cc)
    ] in
    record {
      harts = c.set_of_hart.ensures.len ∙ c.loop-i.invariant.harts;
      bounded = bounded_step t pos i (c.position_of-position.result + 1) e b (λ h. bounds_of c.loop-i.harts.items h) (λ h. bounds_of c.set_of_hart.new.harts.items h)
          c.event_at-event.ensures.at (ap (λ n. n + 1) c.position_of-position.ensures.at) (c.of_hart-bounds.ensures no_bounds)
          (λ h. c.set_of_hart.ensures.set no_bounds h ∙ ap (λ (x : HartBounds). if h == c.event_at-event.result.hart then x else bounds_of c.loop-i.harts.items h) c.bounds_after-next.ensures)
          c.loop-i.invariant.bounded;
      respected = below_more _ _ c.loop-i.invariant.respected here;
    }

pub returns : goal.returns
returns c = (λ h b op. c.loop-i.invariant.respected b (let l = within c.args.events.now b op in omega (arith, l)) op, λ respected. search rules)
