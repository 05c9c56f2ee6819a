use Rattle.std.proofs.Common.{arith}
use Rattle.std.proofs.lemmas.Bool.Decides.{nat_tests}
use Rattle.rv64_decode.proofs.Rows.{instr_from, none_from}
use Rattle.rv64_decode.proofs.decoding.immediates.immediate_word_operation.Goals as goal

pub returns-in-27 : goal.returns-in-27
returns-in-27 c = let e = instr_from 0x0000707f 0x0000001b c.args.word c.in-27.is in cc

pub returns-in_default : goal.returns-in_default
returns-in_default c = none_from 0x0000007f 0x0000001b 0x0000707f c.args.word c.requires (grind (arith, nat_tests))
