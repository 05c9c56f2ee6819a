use Rattle.std.proofs.Common.{arith}
use Rattle.std.proofs.lemmas.Bool.Decides.{nat_tests}
use Rattle.rv64_decode.proofs.Rows.{instr_from, none_from}
use Rattle.rv64_decode.proofs.decoding.jumps.branch.Goals as goal

pub returns-in-99 : goal.returns-in-99
returns-in-99 c = let e = instr_from 0x0000707f 0x00000063 c.args.word c.in-99.is in cc

pub returns-in-4195 : goal.returns-in-4195
returns-in-4195 c = let e = instr_from 0x0000707f 0x00001063 c.args.word c.in-4195.is in cc

pub returns-in-16483 : goal.returns-in-16483
returns-in-16483 c = let e = instr_from 0x0000707f 0x00004063 c.args.word c.in-16483.is in cc

pub returns-in-20579 : goal.returns-in-20579
returns-in-20579 c = let e = instr_from 0x0000707f 0x00005063 c.args.word c.in-20579.is in cc

pub returns-in-24675 : goal.returns-in-24675
returns-in-24675 c = let e = instr_from 0x0000707f 0x00006063 c.args.word c.in-24675.is in cc

pub returns-in-28771 : goal.returns-in-28771
returns-in-28771 c = let e = instr_from 0x0000707f 0x00007063 c.args.word c.in-28771.is in cc

pub returns-in_default : goal.returns-in_default
returns-in_default c = none_from 0x0000007f 0x00000063 0x0000707f c.args.word c.requires (grind (arith, nat_tests))
