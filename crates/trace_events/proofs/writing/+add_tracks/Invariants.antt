use Rattle.trace_events.proofs.writing.+add_tracks.Given as goal

abbrev pub decreases-add_tracks : goal.decreases-add_tracks
decreases-add_tracks l = l.count
