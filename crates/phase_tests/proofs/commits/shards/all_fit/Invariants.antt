use Rattle.std.proofs.Common.{◌<◌, ℕ, List, get_or}
use Rattle.commit_phase.specs.Commit.{IsWritable}
use Rattle.phase_tests.proofs.commits.shards.all_fit.Given as goal

abbrev pub invariant-loop-buffer : goal.invariant-loop-buffer
invariant-loop-buffer l = record { fit : (k : ℕ) (d : List (ℕ × ℕ)) → k < l.buffer-index → IsWritable l.pages (get_or l.buffers k d) }
