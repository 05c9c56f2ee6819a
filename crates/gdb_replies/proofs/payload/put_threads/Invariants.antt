use Rattle.std.proofs.Common.{◌≡◌}
use Rattle.gdb_replies.specs.Words.{threads_text}
use Rattle.gdb_replies.proofs.payload.put_threads.Given as goal

abbrev pub invariant-loop-before : goal.invariant-loop-before
invariant-loop-before l = l.text.items ≡ threads_text l.before
