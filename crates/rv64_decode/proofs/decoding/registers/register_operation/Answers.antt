use Rattle.std.proofs.Common.{arith}
use Rattle.std.proofs.lemmas.Bool.Decides.{nat_tests}
use Rattle.rv64_decode.proofs.Rows.{instr_from, none_from}
use Rattle.rv64_decode.proofs.decoding.registers.register_operation.Goals as goal

pub returns-in-51 : goal.returns-in-51
returns-in-51 c = let e = instr_from 0xfe00707f 0x00000033 c.args.word c.in-51.is in cc

pub returns-in-1073741875 : goal.returns-in-1073741875
returns-in-1073741875 c = let e = instr_from 0xfe00707f 0x40000033 c.args.word c.in-1073741875.is in cc

pub returns-in-4147 : goal.returns-in-4147
returns-in-4147 c = let e = instr_from 0xfe00707f 0x00001033 c.args.word c.in-4147.is in cc

pub returns-in-8243 : goal.returns-in-8243
returns-in-8243 c = let e = instr_from 0xfe00707f 0x00002033 c.args.word c.in-8243.is in cc

pub returns-in-12339 : goal.returns-in-12339
returns-in-12339 c = let e = instr_from 0xfe00707f 0x00003033 c.args.word c.in-12339.is in cc

pub returns-in-16435 : goal.returns-in-16435
returns-in-16435 c = let e = instr_from 0xfe00707f 0x00004033 c.args.word c.in-16435.is in cc

pub returns-in-20531 : goal.returns-in-20531
returns-in-20531 c = let e = instr_from 0xfe00707f 0x00005033 c.args.word c.in-20531.is in cc

pub returns-in-1073762355 : goal.returns-in-1073762355
returns-in-1073762355 c = let e = instr_from 0xfe00707f 0x40005033 c.args.word c.in-1073762355.is in cc

pub returns-in-24627 : goal.returns-in-24627
returns-in-24627 c = let e = instr_from 0xfe00707f 0x00006033 c.args.word c.in-24627.is in cc

pub returns-in-28723 : goal.returns-in-28723
returns-in-28723 c = let e = instr_from 0xfe00707f 0x00007033 c.args.word c.in-28723.is in cc

pub returns-in-33554483 : goal.returns-in-33554483
returns-in-33554483 c = let e = instr_from 0xfe00707f 0x02000033 c.args.word c.in-33554483.is in cc

pub returns-in-33558579 : goal.returns-in-33558579
returns-in-33558579 c = let e = instr_from 0xfe00707f 0x02001033 c.args.word c.in-33558579.is in cc

pub returns-in-33562675 : goal.returns-in-33562675
returns-in-33562675 c = let e = instr_from 0xfe00707f 0x02002033 c.args.word c.in-33562675.is in cc

pub returns-in-33566771 : goal.returns-in-33566771
returns-in-33566771 c = let e = instr_from 0xfe00707f 0x02003033 c.args.word c.in-33566771.is in cc

pub returns-in-33570867 : goal.returns-in-33570867
returns-in-33570867 c = let e = instr_from 0xfe00707f 0x02004033 c.args.word c.in-33570867.is in cc

pub returns-in-33574963 : goal.returns-in-33574963
returns-in-33574963 c = let e = instr_from 0xfe00707f 0x02005033 c.args.word c.in-33574963.is in cc

pub returns-in-33579059 : goal.returns-in-33579059
returns-in-33579059 c = let e = instr_from 0xfe00707f 0x02006033 c.args.word c.in-33579059.is in cc

pub returns-in-33583155 : goal.returns-in-33583155
returns-in-33583155 c = let e = instr_from 0xfe00707f 0x02007033 c.args.word c.in-33583155.is in cc

pub returns-in_default : goal.returns-in_default
returns-in_default c = none_from 0x0000007f 0x00000033 0xfe00707f c.args.word c.requires (grind (arith, nat_tests))
