use Rattle.std.proofs.Common.{◌-◌, ◌+◌}
use Rattle.store_buffer.specs.Lines.{line_bytes}
use Rattle.commit_phase.specs.Writing.{word_bytes}
use Rattle.commit_phase.proofs.Writing.{Writing}
use Rattle.commit_phase.proofs.part.write_each.Given as goal

abbrev pub invariant-loop-j : goal.invariant-loop-j
invariant-loop-j l = record { writing : Writing l.fn.part l.part (word_bytes l.start l.line l.index) (line_bytes l.start l.line l.j (l.index + 8 - l.j)) }
