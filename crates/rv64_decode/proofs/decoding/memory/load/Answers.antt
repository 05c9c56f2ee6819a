use Rattle.std.proofs.Common.{arith}
use Rattle.std.proofs.lemmas.Bool.Decides.{nat_tests}
use Rattle.rv64_decode.proofs.Rows.{instr_from, none_from}
use Rattle.rv64_decode.proofs.decoding.memory.load.Goals as goal

pub returns-in-3 : goal.returns-in-3
returns-in-3 c = let e = instr_from 0x0000707f 0x00000003 c.args.word c.in-3.is in cc

pub returns-in-4099 : goal.returns-in-4099
returns-in-4099 c = let e = instr_from 0x0000707f 0x00001003 c.args.word c.in-4099.is in cc

pub returns-in-8195 : goal.returns-in-8195
returns-in-8195 c = let e = instr_from 0x0000707f 0x00002003 c.args.word c.in-8195.is in cc

pub returns-in-16387 : goal.returns-in-16387
returns-in-16387 c = let e = instr_from 0x0000707f 0x00004003 c.args.word c.in-16387.is in cc

pub returns-in-20483 : goal.returns-in-20483
returns-in-20483 c = let e = instr_from 0x0000707f 0x00005003 c.args.word c.in-20483.is in cc

pub returns-in-24579 : goal.returns-in-24579
returns-in-24579 c = let e = instr_from 0x0000707f 0x00006003 c.args.word c.in-24579.is in cc

pub returns-in-12291 : goal.returns-in-12291
returns-in-12291 c = let e = instr_from 0x0000707f 0x00003003 c.args.word c.in-12291.is in cc

pub returns-in_default : goal.returns-in_default
returns-in_default c = none_from 0x0000007f 0x00000003 0x0000707f c.args.word c.requires (grind (arith, nat_tests))
