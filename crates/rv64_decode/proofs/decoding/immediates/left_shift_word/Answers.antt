use Rattle.std.proofs.Common.{arith}
use Rattle.std.proofs.lemmas.Bool.Decides.{nat_tests}
use Rattle.rv64_decode.proofs.Rows.{instr_from, none_from}
use Rattle.rv64_decode.proofs.decoding.immediates.left_shift_word.Goals as goal

pub returns-in-4123 : goal.returns-in-4123
returns-in-4123 c = let e = instr_from 0xfe00707f 0x0000101b c.args.word c.in-4123.is in cc

pub returns-in_default : goal.returns-in_default
returns-in_default c = none_from 0x0000707f 0x0000101b 0xfe00707f c.args.word c.requires (grind (arith, nat_tests))
