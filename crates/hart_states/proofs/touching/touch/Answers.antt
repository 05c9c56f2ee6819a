use Rattle.std.proofs.Common.{ℕ, List, ◌+◌, ap, ◌∙◌}
use Rattle.round_schedule.specs.Accesses.{address_of}
use Rattle.run_bounds.specs.Touched.{known_at}
use Rattle.run_bounds.specs.declared.touched.TouchedByte.{TouchedByte}
use Rattle.hart_states.specs.Choices.{byte_after}
use Rattle.hart_states.proofs.Touched.{touched_more}
use Rattle.hart_states.proofs.touching.touch.Goals as goal

pub loop-place-preserved : goal.loop-place-preserved
loop-place-preserved c =
    touched_more (address_of c.args.choice.now.access) c.loop-place.place (λ x b. byte_after c.args.choice.now c.args.behind c.args.needs x b)
    (λ x. known_at c.args.bytes.now.items x) (λ x. known_at c.loop-place.bytes.items x) (λ x. known_at c.set_byte.new.bytes.items x) c.byte_left.result
    c.loop-place.invariant
    (c.byte_left.ensures ∙ ap (λ (t : TouchedByte). byte_after c.args.choice.now c.args.behind c.args.needs (address_of c.args.choice.now.access + c.loop-place.place) t)
    (c.byte_known.ensures ∙ ap (λ (l : List TouchedByte). known_at l (c.address-first.result + c.loop-place.place)) c.deref.ensures.value
    ∙ ap (λ (y : ℕ). known_at c.loop-place.bytes.items (y + c.loop-place.place)) c.address-first.ensures))
    (ap (λ (b : TouchedByte). b.address) c.byte_left.ensures)
    c.in_ok-set_byte.ensures
