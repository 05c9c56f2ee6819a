use Rattle.std.proofs.Common.{◌≡◌, All, length, ap, ◌∙◌, arith}
use Rattle.std.proofs.lemmas.List.Elements.{All-rest}
use Rattle.many_makers.specs.Slots.{IsMade}
use Rattle.many_makers.proofs.Written.{written}
use Rattle.many_makers.proofs.slots.filled_slots.Goals as goal

pub loop-list-preserved : goal.loop-list-preserved
loop-list-preserved g c =
    let slots = c.loop-list.slots in
    let new = c.put_all.new.slots in
    let here = c.deref_mut.ensures.value in
    let long : length new ≡ length slots.items = c.put_all.ensures.count ∙ ap length here in
    rw (written slots.len new slots.items (omega (arith, c.deref_mut.ensures.len, ap length here)) long) (record {
      count = long ∙ c.loop-list.invariant.count;
      slots = c.put_all.ensures.slots;
      left = All-rest (λ made. All (IsMade (λ k r. g.M.Fn.post c.args.make.now (k, tt) r)) made.items) _ _ _ c.in-Some.ensures.steps.0 c.loop-list.invariant.left;
    })
