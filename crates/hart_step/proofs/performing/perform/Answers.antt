-- Each arm: the action of its instruction is the one whose outcome its effect leaves.
use Rattle.std.proofs.Common.{rules, refl}
use Rattle.hart_step.proofs.Performed.{branches, jumps, loads, puts, stores, waits}
use Rattle.hart_step.proofs.performing.perform.Goals as goal

pub returns-in-Auipc : goal.returns-in-Auipc
returns-in-Auipc g c = puts c.in-Auipc.is (search rules) c.put.ensures c.requires.empty (g.met.B.Bus.takes_none c.args.b.now)

pub returns-in-Jal : goal.returns-in-Jal
returns-in-Jal g c = jumps c.in-Jal.is (search rules) c.jump.ensures c.requires.empty (g.met.B.Bus.takes_none c.args.b.now)

pub returns-in-Jalr : goal.returns-in-Jalr
returns-in-Jalr g c = jumps c.in-Jalr.is (search rules) c.jump-in-Jalr.ensures c.requires.empty (g.met.B.Bus.takes_none c.args.b.now)

pub returns-in-Beq : goal.returns-in-Beq
returns-in-Beq g c = branches c.in-Beq.is (search rules) c.branch-h.ensures c.requires.empty (g.met.B.Bus.takes_none c.args.b.now)

pub returns-in-Bne : goal.returns-in-Bne
returns-in-Bne g c = branches c.in-Bne.is (search rules) c.branch-h-in-Bne.ensures c.requires.empty (g.met.B.Bus.takes_none c.args.b.now)

pub returns-in-Blt : goal.returns-in-Blt
returns-in-Blt g c = branches c.in-Blt.is (search rules) c.branch-h-in-Blt.ensures c.requires.empty (g.met.B.Bus.takes_none c.args.b.now)

pub returns-in-Bge : goal.returns-in-Bge
returns-in-Bge g c = branches c.in-Bge.is (search rules) c.branch-h-in-Bge.ensures c.requires.empty (g.met.B.Bus.takes_none c.args.b.now)

pub returns-in-Bltu : goal.returns-in-Bltu
returns-in-Bltu g c = branches c.in-Bltu.is (search rules) c.branch-h-in-Bltu.ensures c.requires.empty (g.met.B.Bus.takes_none c.args.b.now)

pub returns-in-Bgeu : goal.returns-in-Bgeu
returns-in-Bgeu g c = branches c.in-Bgeu.is (search rules) c.branch-h-in-Bgeu.ensures c.requires.empty (g.met.B.Bus.takes_none c.args.b.now)

pub returns-in-Lb : goal.returns-in-Lb
returns-in-Lb g c = loads c.in-Lb.is (search rules) c.load.ensures (g.met.B.Bus.takes_none c.args.b.now)

pub returns-in-Lh : goal.returns-in-Lh
returns-in-Lh g c = loads c.in-Lh.is (search rules) c.load-in-Lh.ensures (g.met.B.Bus.takes_none c.args.b.now)

pub returns-in-Lw : goal.returns-in-Lw
returns-in-Lw g c = loads c.in-Lw.is (search rules) c.load-in-Lw.ensures (g.met.B.Bus.takes_none c.args.b.now)

pub returns-in-Lbu : goal.returns-in-Lbu
returns-in-Lbu g c = loads c.in-Lbu.is (search rules) c.load-in-Lbu.ensures (g.met.B.Bus.takes_none c.args.b.now)

pub returns-in-Lhu : goal.returns-in-Lhu
returns-in-Lhu g c = loads c.in-Lhu.is (search rules) c.load-in-Lhu.ensures (g.met.B.Bus.takes_none c.args.b.now)

pub returns-in-Lwu : goal.returns-in-Lwu
returns-in-Lwu g c = loads c.in-Lwu.is (search rules) c.load-in-Lwu.ensures (g.met.B.Bus.takes_none c.args.b.now)

pub returns-in-Ld : goal.returns-in-Ld
returns-in-Ld g c = loads c.in-Ld.is (search rules) c.load-in-Ld.ensures (g.met.B.Bus.takes_none c.args.b.now)

pub returns-in-Sb : goal.returns-in-Sb
returns-in-Sb g c = stores c.in-Sb.is (search rules) c.store.ensures

pub returns-in-Sh : goal.returns-in-Sh
returns-in-Sh g c = stores c.in-Sh.is (search rules) c.store-in-Sh.ensures

pub returns-in-Sw : goal.returns-in-Sw
returns-in-Sw g c = stores c.in-Sw.is (search rules) c.store-in-Sw.ensures

pub returns-in-Sd : goal.returns-in-Sd
returns-in-Sd g c = stores c.in-Sd.is (search rules) c.store-in-Sd.ensures

pub returns-in-Fence : goal.returns-in-Fence
returns-in-Fence g c = loads c.in-Fence.is (search rules) c.order.ensures (g.met.B.Bus.takes_none c.args.b.now)

pub returns-in-Some : goal.returns-in-Some
returns-in-Some g c = puts refl (c.in-Some.ensures.puts c.args.h.now.pc) c.put-in-Some.ensures c.requires.empty (g.met.B.Bus.takes_none c.args.b.now)

pub returns-in-None : goal.returns-in-None
returns-in-None g c = waits c.args.i (c.simple_value.ensures.other c.in-None.is) (search rules) (g.met.B.Bus.takes_none c.args.b.now)
