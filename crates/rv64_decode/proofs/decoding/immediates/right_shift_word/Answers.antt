use Rattle.std.proofs.Common.{arith}
use Rattle.std.proofs.lemmas.Bool.Decides.{nat_tests}
use Rattle.rv64_decode.proofs.Rows.{instr_from, none_from}
use Rattle.rv64_decode.proofs.decoding.immediates.right_shift_word.Goals as goal

pub returns-in-20507 : goal.returns-in-20507
returns-in-20507 c = let e = instr_from 0xfe00707f 0x0000501b c.args.word c.in-20507.is in cc

pub returns-in-1073762331 : goal.returns-in-1073762331
returns-in-1073762331 c = let e = instr_from 0xfe00707f 0x4000501b c.args.word c.in-1073762331.is in cc

pub returns-in_default : goal.returns-in_default
returns-in_default c = none_from 0x0000707f 0x0000501b 0xfe00707f c.args.word c.requires (grind (arith, nat_tests))
