use Rattle.run_commands.proofs.reading.read_recording_of.Goals as goal

pub returns-in-Ok-read_recording-clause-holds : goal.returns-in-Ok-read_recording-clause-holds
returns-in-Ok-read_recording-clause-holds g c = record {
  text = c.in-Ok.text.items;
  held = c.in-Ok.ensures.marked;
  is_recording = rw c.deref.ensures.value at c.in-Ok-read_recording.ensures.found;
}
