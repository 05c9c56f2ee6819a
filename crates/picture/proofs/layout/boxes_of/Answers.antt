use Rattle.std.proofs.Common.{◌≤◌, ◌+◌, ◌*◌, ◌∙◌, List, ℕ, ap, arith, subst, sym}
use Rattle.std.proofs.lemmas.List.Elements.{All-push, All-same, All-weaker}
use Rattle.picture.specs.declared.event_box.EventBox.{EventBox}
use Rattle.picture.specs.Layout.{top_under}
use Rattle.picture.proofs.Growing.{boxes_more}
use Rattle.picture.proofs.Tops.{IsAbove, top_under_low}
use Rattle.picture.proofs.layout.boxes_of.Goals as goal

pub overflow_cast-next : goal.overflow_cast-next
overflow_cast-next c =
    let i = c.loop-row.row-index in
    let e = c.top_under-top.ensures.top ∙ ap (λ (bs : List EventBox). top_under bs c.event_at-event.result) c.deref.ensures.value in
    let low = subst (λ (n : ℕ). n ≤ (236 + 92 * i) + 92) (sym e) (top_under_low (236 + 92 * i) (omega arith) c.loop-row.boxes.items c.event_at-event.result c.loop-row.invariant.above) in
    omega (arith, low)

pub loop-row-preserved : goal.loop-row-preserved
loop-row-preserved c =
    let i = c.loop-row.row-index in
    let e = c.top_under-top.ensures.top ∙ ap (λ (bs : List EventBox). top_under bs c.event_at-event.result) c.deref.ensures.value in
    let low = subst (λ (n : ℕ). n ≤ (236 + 92 * i) + 92) (sym e) (top_under_low (236 + 92 * i) (omega arith) c.loop-row.boxes.items c.event_at-event.result c.loop-row.invariant.above) in
    record {
      boxes = boxes_more c.args.trace.now.events c.args.rows.now i _ c.loop-row.boxes.items _ c.event_at-event.result c.top_under-top.result
          c.in_ok-push.ensures.items c.event_at-event.ensures.event e c.loop-row.invariant.boxes (omega arith);
      above = All-same (IsAbove (236 + 92 * (i + 1))) _ _ c.in_ok-push.ensures.items
          (All-push (IsAbove (236 + 92 * (i + 1))) c.loop-row.boxes.items _
          (All-weaker (IsAbove (236 + 92 * i)) (IsAbove (236 + 92 * (i + 1))) (λ b h. omega (arith, h)) c.loop-row.boxes.items c.loop-row.invariant.above)
          (omega (arith, low)));
    }
