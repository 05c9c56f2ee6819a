use Rattle.std.proofs.Common.{subst, sym}
use Rattle.machine.specs.Untraced.{IsUntraced, Untraced}
use Rattle.timelines.proofs.showing.after_its_turn.Goals as goal

pub returns-clause-hart : goal.returns-clause-hart
returns-clause-hart g c = λ m is.
    let shared = rw c.in_ok-copy.ensures at c.share.ensures in
    c.hart_after_round-hart.ensures m (subst (λ (u : Untraced). IsUntraced m u) (sym shared.same) is)
