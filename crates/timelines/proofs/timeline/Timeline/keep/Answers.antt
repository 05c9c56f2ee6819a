use Rattle.std.proofs.Common.{subst, sym}
use Rattle.machine.specs.Untraced.{Untraced}
use Rattle.timelines.specs.Timelines.{IsThere, Line}
use Rattle.timelines.proofs.timeline.Timeline.keep.Goals as goal

pub invariant_of-self : goal.invariant_of-self
invariant_of-self c =
    let inv = c.self.invariant in
    let shared = rw c.in_ok-self-inside.ensures at c.share.ensures in
    let start : Untraced = c.self.inside.start in
    let there = subst (λ (l : Line). IsThere l.start c.args.machine.now) (sym c.self.view_is) c.requires.there in
    record {
      run = inv.run;
      fresh = inv.fresh;
      has_code = inv.has_code;
      later = subst (IsThere start) (sym shared.same) there;
      there = c.keep_far.ensures.there start inv.there (subst (IsThere start) (sym c.share.ensures.stays) there);
      some = inv.some;
      few = inv.few;
    }
