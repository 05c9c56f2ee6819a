use Rattle.std.proofs.Common.{ap, subst, sym, ◌∙◌, arith}
use Rattle.machine.specs.Machine.{after_rounds}
use Rattle.machine.specs.Untraced.{IsUntraced, Untraced}
use Rattle.timelines.specs.Timelines.{Line}
use Rattle.timelines.proofs.Stretches.{arrives}
use Rattle.timelines.proofs.timeline.Timeline.go_to.Goals as goal

pub keep-requires : goal.keep-requires
keep-requires g c =
    let inv = c.loop-self.invariant in
    let ran = rw c.in_ok-of_memory.ensures at c.run.ensures in
    let u : Untraced = c.loop-self.machine in
    let v : Untraced = c.run.new.self in
    record {
      there = λ m is. arrives m u.rounds c.min-more.result v.rounds u v (inv.1 m (subst (λ (l : Line). IsUntraced m l.start) inv.0 is)) ran.ok (sym ran.counted);
    }

pub loop-self-preserved : goal.loop-self-preserved
loop-self-preserved g c =
    let inv = c.loop-self.invariant in
    let ran = rw c.in_ok-of_memory.ensures at c.run.ensures in
    let u : Untraced = c.loop-self.machine in
    let v : Untraced = c.run.new.self in
    let same = c.in_ok-keep.ensures.same in
    let rounds = ap (λ (w : Untraced). w.rounds) same in (
      c.in_ok-keep.ensures.stays ∙ inv.0,
      λ m is. subst (λ (w : Untraced). IsUntraced (after_rounds w.rounds m) w) (sym same)
          (arrives m u.rounds c.min-more.result v.rounds u v (inv.1 m is) ran.ok (sym ran.counted)),
      omega (arith, rounds, ran.counted, c.min-more.ensures, inv.2),
    )
