use Rattle.std.proofs.Common.{◌≡◌, ◌+◌, ◌≤◌, drop}
use Rattle.execution_commands.specs.Texts.{line_ends}
use Rattle.execution_commands.proofs.reading.line_at.Given as goal

-- with the ends of lines that are left
abbrev pub invariant-loop-byte : goal.invariant-loop-byte
invariant-loop-byte l = (l.line + line_ends (drop l.byte-index l.lines) ≡ line_ends l.lines + 1) × (l.line ≤ l.byte-index + 1)
