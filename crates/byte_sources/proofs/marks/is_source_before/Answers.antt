use Rattle.std.proofs.Common.{◌≡◌, true, arith, ap, sym, ◌∙◌}
use Rattle.round_schedule.specs.declared.event.Event.{Event}
use Rattle.round_schedule.specs.Positions.{event}
use Rattle.byte_sources.specs.Sources.{gives, sees}
use Rattle.byte_sources.proofs.Overwritten.{source_before, source_is_above}
use Rattle.byte_sources.proofs.marks.is_source_before.Goals as goal

pub returns-then-later-next : goal.returns-then-later-next
returns-then-later-next c =
    c.gives.ensures ∙ ap (λ (e : Event). gives c.args.trace.now.events e c.args.byte c.args.index) c.event_at-reader.ensures.event
    ∙ source_before c.args.trace.now.events c.args.index c.args.byte c.args.later c.args.next c.requires.over c.requires.later (omega arith)

pub returns-then-sees : goal.returns-then-sees
returns-then-sees c =
    let t = c.args.trace.now.events in
    let seen : sees (event t c.args.later) (event t c.args.next) ≡ true =
    ap (λ (e : Event). sees e (event t c.args.next)) (sym c.event_at-reader.ensures.event) ∙ ap (λ (e : Event). sees c.event_at-reader.result e) (sym c.event_at.ensures.event) ∙ sym c.sees.ensures ∙ c.if-sees.true in
    source_is_above t c.args.index c.args.byte c.args.later c.args.next c.requires.over c.if-later-next.false seen
