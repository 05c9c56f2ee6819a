use Rattle.std.proofs.Common.{arith}
use Rattle.std.proofs.lemmas.Bool.Decides.{nat_tests}
use Rattle.rv64_decode.proofs.Rows.{instr_from, none_from}
use Rattle.rv64_decode.proofs.decoding.immediates.immediate_operation.Goals as goal

pub returns-in-19 : goal.returns-in-19
returns-in-19 c = let e = instr_from 0x0000707f 0x00000013 c.args.word c.in-19.is in cc

pub returns-in-8211 : goal.returns-in-8211
returns-in-8211 c = let e = instr_from 0x0000707f 0x00002013 c.args.word c.in-8211.is in cc

pub returns-in-12307 : goal.returns-in-12307
returns-in-12307 c = let e = instr_from 0x0000707f 0x00003013 c.args.word c.in-12307.is in cc

pub returns-in-16403 : goal.returns-in-16403
returns-in-16403 c = let e = instr_from 0x0000707f 0x00004013 c.args.word c.in-16403.is in cc

pub returns-in-24595 : goal.returns-in-24595
returns-in-24595 c = let e = instr_from 0x0000707f 0x00006013 c.args.word c.in-24595.is in cc

pub returns-in-28691 : goal.returns-in-28691
returns-in-28691 c = let e = instr_from 0x0000707f 0x00007013 c.args.word c.in-28691.is in cc

pub returns-in_default : goal.returns-in_default
returns-in_default c = none_from 0x0000007f 0x00000013 0x0000707f c.args.word c.requires (grind (arith, nat_tests))
