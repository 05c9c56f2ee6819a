use Rattle.std.proofs.Common.{arith}
use Rattle.std.proofs.lemmas.Bool.Decides.{nat_tests}
use Rattle.rv64_decode.proofs.Rows.{instr_from, none_from}
use Rattle.rv64_decode.proofs.decoding.jumps.jump_register.Goals as goal

pub returns-in-103 : goal.returns-in-103
returns-in-103 c = let e = instr_from 0x0000707f 0x00000067 c.args.word c.in-103.is in cc

pub returns-in_default : goal.returns-in_default
returns-in_default c = none_from 0x0000007f 0x00000067 0x0000707f c.args.word c.requires (grind (arith, nat_tests))
