use Rattle.std.proofs.Common.{ℕ, arith, ap, length, length-drop}
use Rattle.report_lines.proofs.Decimals.{at_most_20_digits}
use Rattle.report_lines.proofs.tail.Tail.decimal.Goals as goal

pub write_digits-self-inside-requires : goal.write_digits-self-inside-requires
write_digits-self-inside-requires c =
    (omega (arith, at_most_20_digits c.args.number (omega arith), ap length c.self.view_is, length-drop {A = ℕ}), omega (arith, c.self.invariant))

pub returns-clause-length : goal.returns-clause-length
returns-clause-length c =
    omega (arith, at_most_20_digits c.args.number (omega arith), ap length c.self.view_is, length-drop {A = ℕ})
