use Rattle.std.proofs.Common.{arith}
use Rattle.std.proofs.lemmas.Bool.Decides.{nat_tests}
use Rattle.rv64_decode.proofs.Rows.{instr_from, none_from}
use Rattle.rv64_decode.proofs.decoding.fences.fence.Goals as goal

pub returns-in-15 : goal.returns-in-15
returns-in-15 c = let e = instr_from 0x0000707f 0x0000000f c.args.word c.in-15.is in cc

pub returns-in_default : goal.returns-in_default
returns-in_default c = none_from 0x0000007f 0x0000000f 0x0000707f c.args.word c.requires (grind (arith, nat_tests))
