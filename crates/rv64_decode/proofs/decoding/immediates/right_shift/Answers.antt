use Rattle.std.proofs.Common.{arith}
use Rattle.std.proofs.lemmas.Bool.Decides.{nat_tests}
use Rattle.rv64_decode.proofs.Rows.{instr_from, none_from}
use Rattle.rv64_decode.proofs.decoding.immediates.right_shift.Goals as goal

pub returns-in-20499 : goal.returns-in-20499
returns-in-20499 c = let e = instr_from 0xfc00707f 0x00005013 c.args.word c.in-20499.is in cc

pub returns-in-1073762323 : goal.returns-in-1073762323
returns-in-1073762323 c = let e = instr_from 0xfc00707f 0x40005013 c.args.word c.in-1073762323.is in cc

pub returns-in_default : goal.returns-in_default
returns-in_default c = none_from 0x0000707f 0x00005013 0xfc00707f c.args.word c.requires (grind (arith, nat_tests))
