use Rattle.std.proofs.Common.{ap, subst, sym, ◌∙◌}
use Rattle.machine.specs.Machine.{Running}
use Rattle.machine.specs.Untraced.{IsUntraced, Untraced}
use Rattle.timelines.proofs.Stretches.{from_start, none_there}
use Rattle.timelines.proofs.timeline.Timeline.new.Goals as goal

pub invariant_of-result : goal.invariant_of-result
invariant_of-result c =
    let stays = c.share.ensures.stays in
    let shared = rw c.in_ok-here.ensures at c.share.ensures in
    let back = λ (m : Running) (is : IsUntraced m c.share.new.self). subst (λ (u : Untraced). IsUntraced m u) stays is in
    record {
      run = (c.requires.run.0, subst (λ (u : Untraced). IsUntraced c.requires.run.0 u) (sym stays) c.requires.run.1);
      fresh = ap (λ (u : Untraced). u.rounds) stays ∙ c.requires.fresh;
      has_code = λ m is. c.requires.code m (back m is);
      later = λ m is. from_start m c.args.machine c.in_ok-here.here (back m is) c.requires.fresh shared.same;
      there = none_there c.share.new.self c.new-machines.result.items c.new-machines.ensures.items;
      some = c.rounds_apart-apart.ensures;
      few = c.requires.rounds;
    }
