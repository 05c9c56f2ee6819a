use Rattle.std.proofs.Common.{◌≡◌, ◌∙◌, ℕ, List, IfOk, ap, length, subst}
use Rattle.trace.specs.Traced.{opening_at}
use Rattle.execution_views.specs.Moments.{bytes_at}
use Rattle.ending_judge.proofs.Seen.{bytes_after}
use Rattle.ending_judge.proofs.seeing.bytes_after.Goals as goal

pub returns : goal.returns
returns c =
    let t = c.args.events.now in
    let g = c.args.order.now.0.items in
    let opening = opening_at c.args.opening.now.opening in
    let r = c.args.range.now in
    let at_end = λ (n : ℕ). bytes_at t opening g (record { hart = 0; index = 0; position = n }) r.address r.length in
    subst (λ (bs : List ℕ). IfOk c.bytes_at.result (λ v. v.items ≡ bs)) (ap at_end (ap length c.as_slice.ensures.value) ∙ bytes_after t opening g r.address r.length) c.bytes_at.ensures
