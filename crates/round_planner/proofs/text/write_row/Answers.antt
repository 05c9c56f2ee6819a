use Rattle.std.proofs.Common.{arith}
use Rattle.std.proofs.lemmas.Grind.{common_steps}
use Rattle.round_planner.proofs.Texts.{row_text-split}
use Rattle.round_planner.proofs.text.write_row.Goals as goal

pub returns-in_ok-write_number-in-len1-up : goal.returns-in_ok-write_number-in-len1-up
returns-in_ok-write_number-in-len1-up c = rw (row_text-split c.args.row.now c.in-len1-up.len_at_least) (grind (arith, common_steps))
