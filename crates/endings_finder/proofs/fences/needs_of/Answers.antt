use Rattle.std.proofs.Common.{◌∙◌, All, ap, slice_index, subst, sym}
use Rattle.std.proofs.lemmas.List.Elements.{All-push}
use Rattle.std.specs.Global.{Vec}
use Rattle.endings_finder.proofs.Needs.{told_so}
use Rattle.endings_finder.specs.Fences.{IsToldFence}
use Rattle.endings_table.specs.declared.fence_need.FenceNeed.{FenceNeed}
use Rattle.endings_finder.proofs.fences.needs_of.Goals as goal
use Rattle.endings_finder.proofs.fences.needs_of.Goals.{then-has_fence+in_ok-image+in_ok-program+in_ok-need+in_ok-push, else-has_fence}

pub loop-pc-preserved : goal.loop-pc-preserved
loop-pc-preserved g c =
    let guest = c.args.guest.now in
    let scripted = guest.scripted in
    let pc = slice_index c.args.fences.now c.loop-pc.pc-index in
    let IsTold = λ (f : FenceNeed). IsToldFence c.args.reach.steps guest.program.now scripted.input.now scripted.harts guest.ranges.now f in
    elim c.if-has_fence.branch [
      | then-has_fence+in_ok-image+in_ok-program+in_ok-need+in_ok-push w ↦
          let need = w.in_ok-need.need in
          let told = told_so c.args.reach.steps guest.program.now w.in_ok-image.image w.in_ok-program.program scripted guest.ranges.now pc need (c.has_fence.ensures w.if-has_fence.true)
          (c.requires.loaded ∙ sym w.in_ok-image.ensures) w.in_ok-program.ensures w.in_ok-need.ensures in
          let pushed = ap (λ (v : Vec FenceNeed). v.items) w.needs-is ∙ w.in_ok-push.ensures.items in
          subst (All IsTold) (sym pushed) (All-push IsTold c.loop-pc.needs.items (record { pc = pc; need = need }) c.loop-pc.invariant told)
      | else-has_fence w ↦ subst (λ (v : Vec FenceNeed). All IsTold v.items) (sym w.needs-is) c.loop-pc.invariant
    ]

-- src/fences.rt:53:24
pub need_without-requires-clause-all : goal.need_without-requires-clause-all
need_without-requires-clause-all g c κs within = c.requires.all c.if-not-asked.false
