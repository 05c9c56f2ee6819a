use Rattle.std.proofs.Common.{arith}
use Rattle.std.proofs.lemmas.Bool.Decides.{nat_tests}
use Rattle.rv64_decode.proofs.Rows.{instr_from, none_from}
use Rattle.rv64_decode.proofs.decoding.registers.register_word_operation.Goals as goal

pub returns-in-59 : goal.returns-in-59
returns-in-59 c = let e = instr_from 0xfe00707f 0x0000003b c.args.word c.in-59.is in cc

pub returns-in-1073741883 : goal.returns-in-1073741883
returns-in-1073741883 c = let e = instr_from 0xfe00707f 0x4000003b c.args.word c.in-1073741883.is in cc

pub returns-in-4155 : goal.returns-in-4155
returns-in-4155 c = let e = instr_from 0xfe00707f 0x0000103b c.args.word c.in-4155.is in cc

pub returns-in-20539 : goal.returns-in-20539
returns-in-20539 c = let e = instr_from 0xfe00707f 0x0000503b c.args.word c.in-20539.is in cc

pub returns-in-1073762363 : goal.returns-in-1073762363
returns-in-1073762363 c = let e = instr_from 0xfe00707f 0x4000503b c.args.word c.in-1073762363.is in cc

pub returns-in-33554491 : goal.returns-in-33554491
returns-in-33554491 c = let e = instr_from 0xfe00707f 0x0200003b c.args.word c.in-33554491.is in cc

pub returns-in-33570875 : goal.returns-in-33570875
returns-in-33570875 c = let e = instr_from 0xfe00707f 0x0200403b c.args.word c.in-33570875.is in cc

pub returns-in-33574971 : goal.returns-in-33574971
returns-in-33574971 c = let e = instr_from 0xfe00707f 0x0200503b c.args.word c.in-33574971.is in cc

pub returns-in-33579067 : goal.returns-in-33579067
returns-in-33579067 c = let e = instr_from 0xfe00707f 0x0200603b c.args.word c.in-33579067.is in cc

pub returns-in-33583163 : goal.returns-in-33583163
returns-in-33583163 c = let e = instr_from 0xfe00707f 0x0200703b c.args.word c.in-33583163.is in cc

pub returns-in_default : goal.returns-in_default
returns-in_default c = none_from 0x0000007f 0x0000003b 0xfe00707f c.args.word c.requires (grind (arith, nat_tests))
