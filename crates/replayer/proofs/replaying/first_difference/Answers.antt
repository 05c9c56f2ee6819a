use Rattle.std.proofs.Common.{arith, inl, inr, length, map, refl, sym}
use Rattle.recording.specs.Views.{checkpoint_view}
use Rattle.replayer.specs.declared.verdict.Verdict.TheVariants.{Same}
use Rattle.replayer.proofs.Compared.{compared_all, none_compared}
use Rattle.replayer.proofs.First.{size}
use Rattle.replayer.proofs.replaying.first_difference.Goals as goal

pub walk-requires-clause-known : goal.walk-requires-clause-known
walk-requires-clause-known g c = λ lifetimes within.
    (refl, refl, refl, none_compared (map checkpoint_view c.args.checkpoints.now) c.args.every Same c.args.machine.now (length c.args.checkpoints.now) (omega (arith, c.requires.opened, size checkpoint_view c.args.checkpoints.now)))

pub returns-clause-verdict : goal.returns-clause-verdict
returns-clause-verdict g c = λ m i.
    let walked = c.in_ok-walk.ensures in
    compared_all (map checkpoint_view c.args.checkpoints.now) c.args.every c.walk.new.visitor.verdict c.args.machine.now _ _ m c.requires.opened (sym (size checkpoint_view c.args.checkpoints.now)) walked.known.3 walked.most
    (elim walked.ended [ inl all ↦ inl all | inr enough ↦ inr enough.1 ]) i
