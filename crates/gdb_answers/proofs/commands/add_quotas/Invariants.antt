use Rattle.std.proofs.Common.{◌≡◌, ◌++◌}
use Rattle.gdb_answers.specs.Commands.{quotas_text}
use Rattle.gdb_answers.proofs.commands.add_quotas.Given as goal

abbrev pub invariant-loop-hart : goal.invariant-loop-hart
invariant-loop-hart l = l.text.items ≡ l.fn.text.items ++ quotas_text l.plan l.round l.hart
