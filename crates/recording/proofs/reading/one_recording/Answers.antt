use Rattle.recording.proofs.Whole.{one_recording}
use Rattle.recording.proofs.reading.one_recording.Goals as goal

pub returns : goal.returns
returns c = one_recording
