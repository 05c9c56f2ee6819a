use Rattle.std.proofs.Common.{arith}
use Rattle.std.proofs.lemmas.Bool.Decides.{nat_tests}
use Rattle.rv64_decode.proofs.Rows.{instr_from, none_from}
use Rattle.rv64_decode.proofs.decoding.atomics.atomic.Goals as goal

pub returns-in-402661423 : goal.returns-in-402661423
returns-in-402661423 c = let e = instr_from 0xf800707f 0x1800202f c.args.word c.in-402661423.is in cc

pub returns-in-134225967 : goal.returns-in-134225967
returns-in-134225967 c = let e = instr_from 0xf800707f 0x0800202f c.args.word c.in-134225967.is in cc

pub returns-in-8239 : goal.returns-in-8239
returns-in-8239 c = let e = instr_from 0xf800707f 0x0000202f c.args.word c.in-8239.is in cc

pub returns-in-536879151 : goal.returns-in-536879151
returns-in-536879151 c = let e = instr_from 0xf800707f 0x2000202f c.args.word c.in-536879151.is in cc

pub returns-in-1610620975 : goal.returns-in-1610620975
returns-in-1610620975 c = let e = instr_from 0xf800707f 0x6000202f c.args.word c.in-1610620975.is in cc

pub returns-in-1073750063 : goal.returns-in-1073750063
returns-in-1073750063 c = let e = instr_from 0xf800707f 0x4000202f c.args.word c.in-1073750063.is in cc

pub returns-in-2147491887 : goal.returns-in-2147491887
returns-in-2147491887 c = let e = instr_from 0xf800707f 0x8000202f c.args.word c.in-2147491887.is in cc

pub returns-in-2684362799 : goal.returns-in-2684362799
returns-in-2684362799 c = let e = instr_from 0xf800707f 0xa000202f c.args.word c.in-2684362799.is in cc

pub returns-in-3221233711 : goal.returns-in-3221233711
returns-in-3221233711 c = let e = instr_from 0xf800707f 0xc000202f c.args.word c.in-3221233711.is in cc

pub returns-in-3758104623 : goal.returns-in-3758104623
returns-in-3758104623 c = let e = instr_from 0xf800707f 0xe000202f c.args.word c.in-3758104623.is in cc

pub returns-in-402665519 : goal.returns-in-402665519
returns-in-402665519 c = let e = instr_from 0xf800707f 0x1800302f c.args.word c.in-402665519.is in cc

pub returns-in-134230063 : goal.returns-in-134230063
returns-in-134230063 c = let e = instr_from 0xf800707f 0x0800302f c.args.word c.in-134230063.is in cc

pub returns-in-12335 : goal.returns-in-12335
returns-in-12335 c = let e = instr_from 0xf800707f 0x0000302f c.args.word c.in-12335.is in cc

pub returns-in-536883247 : goal.returns-in-536883247
returns-in-536883247 c = let e = instr_from 0xf800707f 0x2000302f c.args.word c.in-536883247.is in cc

pub returns-in-1610625071 : goal.returns-in-1610625071
returns-in-1610625071 c = let e = instr_from 0xf800707f 0x6000302f c.args.word c.in-1610625071.is in cc

pub returns-in-1073754159 : goal.returns-in-1073754159
returns-in-1073754159 c = let e = instr_from 0xf800707f 0x4000302f c.args.word c.in-1073754159.is in cc

pub returns-in-2147495983 : goal.returns-in-2147495983
returns-in-2147495983 c = let e = instr_from 0xf800707f 0x8000302f c.args.word c.in-2147495983.is in cc

pub returns-in-2684366895 : goal.returns-in-2684366895
returns-in-2684366895 c = let e = instr_from 0xf800707f 0xa000302f c.args.word c.in-2684366895.is in cc

pub returns-in-3221237807 : goal.returns-in-3221237807
returns-in-3221237807 c = let e = instr_from 0xf800707f 0xc000302f c.args.word c.in-3221237807.is in cc

pub returns-in-3758108719 : goal.returns-in-3758108719
returns-in-3758108719 c = let e = instr_from 0xf800707f 0xe000302f c.args.word c.in-3758108719.is in cc

pub returns-in_default : goal.returns-in_default
returns-in_default c = none_from 0x0000007f 0x0000002f 0xf800707f c.args.word c.requires (grind (arith, nat_tests))
