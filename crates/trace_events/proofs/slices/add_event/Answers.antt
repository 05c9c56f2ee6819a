use Rattle.std.proofs.Common.{ap, refl}
use Rattle.std.specs.Fmt.{decimal}
use Rattle.trace_events.specs.Slices.{event_text, slice_start}
use Rattle.trace_events.proofs.Chains.{first, last, more, more_two}
use Rattle.trace_events.proofs.slices.add_event.Goals as goal

pub returns : goal.returns
unfolding event_text
returns c =
    last _ _ _ _ _ _ _ (more _ _ _ _ _ _ (more_two _ _ _ _ _ _ _ (more _ _ _ _ _ _ (more _ _ _ _ _ _ (more_two _ _ _ _ _ _ _ (more _ _ _ _ _ _ (first _ _ _ _ c.in_ok-add_slice.ensures (ap (λ n. slice_start n c.args.index 1) c.track_of.ensures)) c.in_ok-text.ensures c.name.ensures) c.in_ok-add_with_number.ensures (ap decimal c.from.ensures)) c.in_ok-text-2.ensures refl) c.in_ok-text-3.ensures c.phase.ensures) c.in_ok-add_with_number-2.ensures (ap decimal c.place.ensures)) c.in_ok-add_arguments.ensures refl) c.text-4.ensures refl
