use Rattle.std.proofs.Common.{◌≡◌, ◌++◌}
use Rattle.gdb_replies.specs.Replies.{thread_list_begin}
use Rattle.execution_moments.specs.Looked.{looked_at}
use Rattle.execution_session.specs.Threads.{thread_entries}
use Rattle.execution_session.proofs.threads.thread_list.Given as goal

abbrev pub invariant-loop-number : goal.invariant-loop-number
invariant-loop-number l = l.text.items ≡ thread_list_begin ++ thread_entries (looked_at l.past) l.time l.number
