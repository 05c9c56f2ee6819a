use Rattle.std.proofs.Common.{sym, arith}
use Rattle.std.proofs.lemmas.List.{take_all}
use Rattle.report_lines.proofs.rows.first_32.Goals as goal

pub returns-then-bytes-lt32-clause-text : goal.returns-then-bytes-lt32-clause-text
returns-then-bytes-lt32-clause-text c = sym (take_all 32 c.args.bytes.now (omega arith))
