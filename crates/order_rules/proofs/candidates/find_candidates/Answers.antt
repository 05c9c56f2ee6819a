use Rattle.std.proofs.Common.{rules, ◌≡◌, ◌-◌, ◌+◌, ◌∙◌, ap, Bool, true, length, replicate, slice_set, subst, arith}
use Rattle.std.proofs.lemmas.List.{length-replicate}
use Rattle.memory_order.specs.Orders.{order_position}
use Rattle.order_rules.specs.Behind.{AreCandidates, IsBehind}
use Rattle.order_rules.proofs.Going.{no_candidates_yet, one_candidate_more}
use Rattle.order_rules.proofs.candidates.find_candidates.Goals as goal

pub loop-back-init : goal.loop-back-init
loop-back-init c =
    let e : c.args.b ≡ c.args.b - 0 = omega arith in
    let all : c.in_ok-may.may.items ≡ replicate c.args.b true = c.in_ok-may.ensures.items_if_clones_equal (λ y e. search rules) in
    let size : length c.in_ok-may.may.items ≡ c.args.b = ap length all ∙ length-replicate {A = Bool} c.args.b true in (
      subst (λ k. IsBehind c.args.instructions.now c.args.events.now (order_position c.args.order.now) c.args.b k c.behind_itself-behind.result) e (c.behind_itself-behind.ensures (order_position c.args.order.now)),
      no_candidates_yet c.args.instructions.now c.args.events.now (order_position c.args.order.now) c.args.b (c.args.b - 0) c.in_ok-may.may.items size (omega arith),
    )

pub loop-back-preserved : goal.loop-back-preserved
loop-back-preserved c =
    let k : c.args.b - 1 - c.loop-back.back ≡ c.args.b - (c.loop-back.back + 1) = omega arith in
    let next : c.args.b - c.loop-back.back ≡ c.args.b - 1 - c.loop-back.back + 1 = omega (arith, c.loop-back-test.true) in (
      subst (λ n. IsBehind c.args.instructions.now c.args.events.now (order_position c.args.order.now) c.args.b n c.behind_before-behind.result) k c.behind_before-behind.ensures,
      subst (λ n. AreCandidates c.args.instructions.now c.args.events.now (order_position c.args.order.now) c.args.b n (slice_set c.loop-back.may.items (c.args.b - 1 - c.loop-back.back) c.may_order.result)) k
          (one_candidate_more c.args.instructions.now c.args.events.now (order_position c.args.order.now) c.args.b (c.args.b - 1 - c.loop-back.back) c.loop-back.may.items c.may_order.result
          (omega (arith, c.loop-back-test.true)) c.may_order.ensures
          (subst (λ n. AreCandidates c.args.instructions.now c.args.events.now (order_position c.args.order.now) c.args.b n c.loop-back.may.items) next c.loop-back.invariant.1)),
    )
