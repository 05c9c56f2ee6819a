use Rattle.std.proofs.Common.{arith}
use Rattle.std.proofs.lemmas.Bool.Decides.{nat_tests}
use Rattle.rv64_decode.proofs.Rows.{instr_from, none_from}
use Rattle.rv64_decode.proofs.decoding.memory.store.Goals as goal

pub returns-in-35 : goal.returns-in-35
returns-in-35 c = let e = instr_from 0x0000707f 0x00000023 c.args.word c.in-35.is in cc

pub returns-in-4131 : goal.returns-in-4131
returns-in-4131 c = let e = instr_from 0x0000707f 0x00001023 c.args.word c.in-4131.is in cc

pub returns-in-8227 : goal.returns-in-8227
returns-in-8227 c = let e = instr_from 0x0000707f 0x00002023 c.args.word c.in-8227.is in cc

pub returns-in-12323 : goal.returns-in-12323
returns-in-12323 c = let e = instr_from 0x0000707f 0x00003023 c.args.word c.in-12323.is in cc

pub returns-in_default : goal.returns-in_default
returns-in_default c = none_from 0x0000007f 0x00000023 0x0000707f c.args.word c.requires (grind (arith, nat_tests))
