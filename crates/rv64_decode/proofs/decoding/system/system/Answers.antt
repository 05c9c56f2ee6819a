use Rattle.std.proofs.Common.{ap, arith}
use Rattle.std.proofs.lemmas.Bool.Decides.{nat_tests}
use Rattle.std.specs.Int.Bits.{bit_and}
use Rattle.rv64_decode.proofs.Rows.{instr_from, none_from, whole}
use Rattle.rv64_decode.proofs.decoding.system.system.Goals as goal

pub returns-in-115 : goal.returns-in-115
returns-in-115 c = let e = instr_from 0xffffffff 0x00000073 c.args.word (ap (λ w. bit_and w 0xffffffff) c.in-115.is) in cc

pub returns-in-1048691 : goal.returns-in-1048691
returns-in-1048691 c = let e = instr_from 0xffffffff 0x00100073 c.args.word (ap (λ w. bit_and w 0xffffffff) c.in-1048691.is) in cc

pub returns-in_default : goal.returns-in_default
returns-in_default c = none_from 0x0000007f 0x00000073 0xffffffff c.args.word c.requires (rw (whole c.args.word (omega arith)) (grind (arith, nat_tests)))
