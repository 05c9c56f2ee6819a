use Rattle.std.proofs.Common.{◌≡◌, ◌+◌, drop}
use Rattle.std.specs.List.{prefix_len}
use Rattle.hunt_table.specs.Names.{is_name_byte}
use Rattle.hunt_table.proofs.reading.seen.name_len.Given as goal

-- so far all may stand in a name
abbrev pub invariant-loop-position : goal.invariant-loop-position
invariant-loop-position l = l.position + prefix_len is_name_byte (drop l.position l.text) ≡ prefix_len is_name_byte l.text
