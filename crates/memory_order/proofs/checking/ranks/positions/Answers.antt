use Rattle.std.proofs.Common.{◌≡◌, ◌∙◌, arith, length, get_or, refl, subst, sym, true}
use Rattle.std.proofs.lemmas.List.{get_or_default}
use Rattle.round_schedule.specs.Positions.{event}
use Rattle.memory_order.specs.Operations.{is_operation}
use Rattle.memory_order.proofs.Facts.{within}
use Rattle.memory_order.proofs.Ranking.{Met, met_all, met_more, met_other, met_twice}
use Rattle.memory_order.proofs.checking.ranks.positions.Goals as goal
use Rattle.memory_order.proofs.checking.ranks.positions.Goals.{then-not-is_operation_at-via-then-not-is_operation_at, then-not-is_operation_at-via-else-not-is_operation_at+then-index-absent}

pub index-requires : goal.index-requires
index-requires c =
    let op : is_operation (event c.args.events.now (get_or c.args.order.now c.loop-p.p 0)) ≡ true = cc in
    let l = within c.args.events.now (get_or c.args.order.now c.loop-p.p 0) op in
    omega (arith, l, c.loop-p.invariant.len)

pub returns-then-not-is_operation_at : goal.returns-then-not-is_operation_at
returns-then-not-is_operation_at c = elim c.then-not-is_operation_at.branch [
  | then-not-is_operation_at-via-then-not-is_operation_at w ↦
      met_other c.args.events.now c.args.order.now c.loop-p.p (omega arith) (λ op. cc)
  | then-not-is_operation_at-via-else-not-is_operation_at+then-index-absent w ↦
      let op : is_operation (event c.args.events.now (get_or c.args.order.now c.loop-p.p 0)) ≡ true = cc in
      let l = within c.args.events.now (get_or c.args.order.now c.loop-p.p 0) op in
      let e = get_or_default c.loop-p.ranks.items (get_or c.args.order.now c.loop-p.p 0) 0 w.index.result.now (omega (arith, l, c.loop-p.invariant.len)) in
      met_twice c.args.events.now c.args.order.now c.loop-p.p c.loop-p.ranks.items c.loop-p.invariant (omega arith) l
      (λ f. w.if-index-absent.true (w.index.ensures ∙ sym e ∙ f))
]

pub index_mut-requires : goal.index_mut-requires
index_mut-requires c =
    let op : is_operation (event c.args.events.now (get_or c.args.order.now c.loop-p.p 0)) ≡ true = cc in
    let l = within c.args.events.now (get_or c.args.order.now c.loop-p.p 0) op in
    omega (arith, l, c.loop-p.invariant.len)

pub loop-p-preserved : goal.loop-p-preserved
loop-p-preserved c =
    let op : is_operation (event c.args.events.now (get_or c.args.order.now c.loop-p.p 0)) ≡ true = cc in
    let l = within c.args.events.now (get_or c.args.order.now c.loop-p.p 0) op in
    let e = get_or_default c.loop-p.ranks.items (get_or c.args.order.now c.loop-p.p 0) 0 c.index.result.now (omega (arith, l, c.loop-p.invariant.len)) in
    met_more c.args.events.now c.args.order.now c.loop-p.p c.loop-p.ranks.items c.loop-p.invariant (omega arith) _ refl l op
    (e ∙ sym c.index.ensures ∙ c.if-index-absent.false)

pub returns : goal.returns
returns c =
    let same : c.loop-p.p ≡ length c.args.order.now = omega arith in
    met_all c.args.events.now c.args.order.now c.loop-p.ranks.items (subst (λ p. Met c.args.events.now c.args.order.now p c.loop-p.ranks.items) same c.loop-p.invariant)
    (λ i l op. c.loop-i.invariant i (omega (arith, l)) op)
