use Rattle.std.proofs.Common.{◌≡◌, ◌++◌}
use Rattle.machine.specs.Machine.{Running}
use Rattle.machine.specs.Untraced.{IsUntraced}
use Rattle.gdb_replies.specs.Replies.{thread_list_begin}
use Rattle.gdb_answers.specs.Answers.{thread_entries}
use Rattle.gdb_answers.proofs.threads.thread_list.Given as goal

abbrev pub invariant-loop-hart : goal.invariant-loop-hart
invariant-loop-hart g l =
    (l.timeline ≡ l.fn.timeline)
    × ((m : Running) → IsUntraced m l.fn.timeline.start → l.text.items ≡ thread_list_begin ++ thread_entries m l.fn.look.point l.hart)
