use Rattle.std.proofs.Common.{ℕ, arith, length-drop}
use Rattle.report_lines.proofs.tail.Tail.clear.Goals as goal

pub returns : goal.returns
returns c = omega (arith, length-drop {A = ℕ} 128 c.self.inside.buffer)
