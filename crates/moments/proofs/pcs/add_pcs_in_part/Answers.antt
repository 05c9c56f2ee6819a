use Rattle.std.proofs.Common.{◌≡◌, ap, ◌∙◌, arith}
use Rattle.moments.proofs.PcsFound.{goes_further, is_behind, its_count, none_missing, pc_further, where_some, with_its_pc}
use Rattle.moments.specs.Pcs.{pc_after}
use Rattle.moments.proofs.pcs.add_pcs_in_part.Goals as goal

pub returns-then-is_none-clause-pcs : goal.returns-then-is_none-clause-pcs
returns-then-is_none-clause-pcs g c =
    let inv = c.loop-number.invariant in
    let from : c.from-in-loop-number.result ≡ c.loop-number.done = omega arith in
    let pc = rw from at c.in_ok-pc.ensures.pc in
    with_its_pc _ _ _ _ _ _ _ _ inv.0 c.args.events.now c.loop-number.number _ c.saturating_sub-count.result c.in_ok-pc.pc _ _ _ (omega arith) (omega arith)
    (its_count _ _ _ _ c.saturating_sub-count.ensures c.place.ensures) pc inv.2 c.in_ok-push.ensures.items

pub returns-then-is_none-clause-all : goal.returns-then-is_none-clause-all
returns-then-is_none-clause-all g c = λ forward.
    let inv = c.loop-number.invariant in
    let from : c.from-in-loop-number.result ≡ c.loop-number.done = omega arith in
    let pc = rw from at c.in_ok-pc.ensures.pc in
    let its = its_count _ _ _ _ c.saturating_sub-count.ensures c.place.ensures in
    none_missing _ _ c.args.events.now c.loop-number.number _ _ c.in_ok-pc.pc (omega arith)
    (pc_further _ _ _ _ _ _ _ _ inv.0 _ c.saturating_sub-count.result _ (omega arith) pc ∙ ap (pc_after _) its) c.if-is_none.ensures forward

pub loop-number-preserved : goal.loop-number-preserved
loop-number-preserved g c =
    let inv = c.loop-number.invariant in
    let from : c.from-in-loop-number.result ≡ c.loop-number.done = omega arith in
    let pc = rw from at c.in_ok-pc.ensures.pc in (
      goes_further _ _ _ _ _ _ _ _ inv.0 _ _ _ _ (omega arith) (where_some c.in_ok-pc.pc _ c.if-is_none.ensures c.in_ok-pc.ensures.rest),
      is_behind _ _ _ _ c.saturating_sub-count.result _ (omega arith) (its_count _ _ _ _ c.saturating_sub-count.ensures c.place.ensures) (omega arith),
      with_its_pc _ _ _ _ _ _ _ _ inv.0 c.args.events.now c.loop-number.number _ c.saturating_sub-count.result c.in_ok-pc.pc _ _ _ (omega arith) (omega arith)
          (its_count _ _ _ _ c.saturating_sub-count.ensures c.place.ensures) pc inv.2 c.in_ok-push.ensures.items,
    )
