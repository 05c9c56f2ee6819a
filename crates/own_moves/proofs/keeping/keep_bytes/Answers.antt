use Rattle.std.proofs.Common.{List, ◌+◌, option_map, ap, ◌∙◌}
use Rattle.hart_step.specs.Step.{cut}
use Rattle.run_bounds.specs.Touched.{known_at}
use Rattle.run_bounds.specs.declared.touched.TouchedByte.{TouchedByte}
use Rattle.hart_states.proofs.Touched.{touched_more}
use Rattle.own_moves.specs.Private.{kept_byte}
use Rattle.own_moves.proofs.keeping.keep_bytes.Goals as goal

pub loop-place-preserved : goal.loop-place-preserved
loop-place-preserved c =
    let o = c.args.coming.now.operation in
    let number = option_map (cut o.width) c.args.coming.now.operand in
    touched_more o.address c.loop-place.place (λ x b. kept_byte o.address number c.args.time c.args.needs x b)
    (λ x. known_at c.args.bytes.now.items x) (λ x. known_at c.loop-place.bytes.items x) (λ x. known_at c.set_byte.new.bytes.items x) c.byte_kept.result
    c.loop-place.invariant
    (c.byte_kept.ensures ∙ ap (λ (t : TouchedByte). kept_byte o.address number c.args.time c.args.needs (o.address + c.loop-place.place) t)
    (c.byte_known-known.ensures ∙ ap (λ (l : List TouchedByte). known_at l (o.address + c.loop-place.place)) c.deref.ensures.value))
    (ap (λ (b : TouchedByte). b.address) c.byte_kept.ensures)
    c.in_ok-set_byte.ensures
