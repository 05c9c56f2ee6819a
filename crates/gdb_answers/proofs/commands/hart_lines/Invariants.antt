use Rattle.std.proofs.Common.{◌≡◌}
use Rattle.machine.specs.Machine.{Running}
use Rattle.machine.specs.Untraced.{IsUntraced}
use Rattle.gdb_answers.specs.Commands.{hart_lines}
use Rattle.gdb_answers.proofs.commands.hart_lines.Given as goal

abbrev pub invariant-loop-hart : goal.invariant-loop-hart
invariant-loop-hart g l =
    (l.timeline ≡ l.fn.timeline)
    × ((m : Running) → IsUntraced m l.fn.timeline.start → l.text.items ≡ hart_lines m l.fn.look.point l.hart)
