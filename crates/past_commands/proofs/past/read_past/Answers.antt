use Rattle.past_commands.proofs.past.read_past.Goals as goal

pub returns-in-Ok-read_recording-clause-holds : goal.returns-in-Ok-read_recording-clause-holds
returns-in-Ok-read_recording-clause-holds g c = (c.in-Ok.text.items, c.in-Ok.ensures.either, rw c.deref-2.ensures.value at c.in-Ok-read_recording.ensures.found)
