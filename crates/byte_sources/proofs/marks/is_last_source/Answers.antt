use Rattle.std.proofs.Common.{arith, ap, ◌∙◌}
use Rattle.round_schedule.specs.declared.event.Event.{Event}
use Rattle.byte_sources.specs.Sources.{gives}
use Rattle.byte_sources.proofs.Overwritten.{source_last}
use Rattle.byte_sources.proofs.marks.is_last_source.Goals as goal

pub returns : goal.returns
returns c =
    c.gives.ensures ∙ ap (λ (e : Event). gives c.args.trace.now.events e c.args.byte c.args.index) c.event_at.ensures.event
    ∙ source_last c.args.trace.now.events c.args.index c.args.byte c.args.later c.requires.over c.requires.later (omega arith)
