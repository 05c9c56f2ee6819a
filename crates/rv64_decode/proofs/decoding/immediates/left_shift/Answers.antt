use Rattle.std.proofs.Common.{arith}
use Rattle.std.proofs.lemmas.Bool.Decides.{nat_tests}
use Rattle.rv64_decode.proofs.Rows.{instr_from, none_from}
use Rattle.rv64_decode.proofs.decoding.immediates.left_shift.Goals as goal

pub returns-in-4115 : goal.returns-in-4115
returns-in-4115 c = let e = instr_from 0xfc00707f 0x00001013 c.args.word c.in-4115.is in cc

pub returns-in_default : goal.returns-in_default
returns-in_default c = none_from 0x0000707f 0x00001013 0xfc00707f c.args.word c.requires (grind (arith, nat_tests))
