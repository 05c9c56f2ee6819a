use Rattle.std.proofs.Common.{◌∙◌, ap, length, sym}
use Rattle.recording.specs.Recorded.{Recorded}
use Rattle.recording.specs.Views.{as_recorded, checkpoint_view}
use Rattle.recording.proofs.Counted.{counted, size_seen}
use Rattle.recording.proofs.recording.Recording.checkpoints.Goals as goal

pub returns-clause-count : goal.returns-clause-count
returns-clause-count c =
    ap length c.as_slice.ensures.value ∙ sym (size_seen checkpoint_view c.self.inside.fields.checkpoints.items)
    ∙ counted (as_recorded c.self.inside.fields) c.self.invariant ∙ ap (λ (r : Recorded). r.rounds) c.self.view_is
