use Rattle.std.proofs.Common.{arith}
use Rattle.std.proofs.lemmas.Bool.Decides.{nat_tests}
use Rattle.rv64_decode.proofs.Rows.{instr_from, none_from}
use Rattle.rv64_decode.proofs.decoding.atomics.load_reserved_word.Goals as goal

pub returns-in-268443695 : goal.returns-in-268443695
returns-in-268443695 c = let e = instr_from 0xf9f0707f 0x1000202f c.args.word c.in-268443695.is in cc

pub returns-in_default : goal.returns-in_default
returns-in_default c = none_from 0xf800707f 0x1000202f 0xf9f0707f c.args.word c.requires (grind (arith, nat_tests))
