use Rattle.std.proofs.Common.{arith, refl}
use Rattle.std.proofs.lemmas.Bool.Decides.{nat_tests}
use Rattle.rv64_decode.proofs.Rows.{instr_from, none_unlisted, opcodes}
use Rattle.rv64_decode.proofs.decoding.decode.Goals as goal

pub returns-in-23 : goal.returns-in-23
returns-in-23 c = let e = instr_from 0x0000007f 0x00000017 c.args.word c.in-23.is in cc

pub returns-in-55 : goal.returns-in-55
returns-in-55 c = let e = instr_from 0x0000007f 0x00000037 c.args.word c.in-55.is in cc

pub returns-in-111 : goal.returns-in-111
returns-in-111 c = let e = instr_from 0x0000007f 0x0000006f c.args.word c.in-111.is in cc

pub returns-in_default : goal.returns-in_default
returns-in_default c = none_unlisted 0x0000007f opcodes c.args.word refl (grind (arith, nat_tests))
