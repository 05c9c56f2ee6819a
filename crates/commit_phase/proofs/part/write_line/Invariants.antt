use Rattle.std.proofs.Common.{◌-◌, ◌*◌}
use Rattle.store_buffer.specs.Lines.{line_bytes, whole_line}
use Rattle.commit_phase.proofs.Writing.{Writing}
use Rattle.commit_phase.proofs.part.write_line.Given as goal

abbrev pub invariant-loop-k : goal.invariant-loop-k
invariant-loop-k l = record { writing : Writing l.fn.part l.part (whole_line l.start l.line) (line_bytes l.start l.line (8 * l.k) (64 - 8 * l.k)) }
