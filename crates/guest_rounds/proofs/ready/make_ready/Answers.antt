use Rattle.std.proofs.Common.{sym, subst, arith}
use Rattle.pages.specs.Memory.{Memory}
use Rattle.hart_rounds.specs.declared.hart_end.HartEnd.{HartEnd}
use Rattle.guest_rounds.specs.HartEnds.{AllFit, AllOnReady}
use Rattle.guest_rounds.proofs.Listed.{fit_at, keeps_all_more, all_ready}
use Rattle.guest_rounds.proofs.ready.make_ready.Goals as goal

pub make_buffer_ready-requires : goal.make_buffer_ready-requires
make_buffer_ready-requires c =
    subst (λ (m : Memory). AllFit m c.end-item.result.buffer) (sym c.loop-end.invariant.keeps.memory)
    (subst (λ (x : HartEnd). AllFit c.args.pages.now.memory x.buffer) (sym c.end-item.is) (fit_at c.args.pages.now.memory c.args.ends.now c.loop-end.end-index c.end-item.result c.loop-end-test.true c.requires))

pub loop-end-preserved : goal.loop-end-preserved
loop-end-preserved c = keeps_all_more c.args.pages.now c.loop-end.pages c.make_buffer_ready.new.pages c.args.ends.now c.loop-end.end-index c.end-item.result c.loop-end-test.true c.in_ok-make_buffer_ready.ensures.keeps
    (subst (λ (x : HartEnd). AllOnReady c.make_buffer_ready.new.pages x.buffer) c.end-item.is c.in_ok-make_buffer_ready.ensures.ready) c.loop-end.invariant

pub returns-clause-ready : goal.returns-clause-ready
returns-clause-ready c = all_ready c.loop-end.pages c.args.ends.now (λ k d low. c.loop-end.invariant.ready k d (omega (arith, c.loop-end-test.false)))
