use Rattle.std.proofs.Common.{ap}
use Rattle.trace_events.specs.TraceEvents.{head_text, tracks_text}
use Rattle.trace_events.proofs.Chains.{last}
use Rattle.trace_events.proofs.writing.add_head.Goals as goal

pub returns : goal.returns
unfolding head_text
returns c =
    last _ _ _ _ _ _ _ (c.in_ok-text.ensures) c.add_tracks.ensures (ap (tracks_text 0) c.from.ensures)
