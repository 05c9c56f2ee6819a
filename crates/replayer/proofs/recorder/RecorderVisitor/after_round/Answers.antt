use Rattle.std.proofs.Common.{ℕ, ◌+◌, [], ◌∷◌, ◌++◌, map, sym, subst}
use Rattle.machine.specs.Machine.{after_rounds}
use Rattle.recording.specs.Views.{checkpoint_view}
use Rattle.replayer.specs.Visits.{HasRecorded}
use Rattle.replayer.proofs.Recorded.{recorded_next}
use Rattle.replayer.proofs.recorder.RecorderVisitor.after_round.Goals as goal

pub keep-requires : goal.keep-requires
keep-requires g c = let r = c.requires in c.seen_of-seen.ensures.stops (after_rounds (r.3 + 1) r.5.1.1.0) (r.6.run r.5.1.1.0 r.5.1.1.1)

pub returns-clause-known : goal.returns-clause-known
returns-clause-known g c = λ first start rounds done few h d. (
  h.0,
  rw c.in_ok-push.ensures.items
      (subst (λ (every : ℕ). HasRecorded (map checkpoint_view (c.args.self.now.checkpoints.items ++ c.in_ok-of_round.of_round ∷ [])) every start rounds (done + 1)) h.0
      (recorded_next checkpoint_view c.args.self.now.checkpoints.items c.in_ok-of_round.of_round c.args.self.now.every c.seen_of-seen.result start c.args.machine.now rounds done few
      (subst (λ (every : ℕ). HasRecorded (map checkpoint_view c.args.self.now.checkpoints.items) every start rounds done) (sym h.0) h.1)
      d c.in_ok-of_round.ensures.checkpoint c.seen_of-seen.ensures.seen c.in_ok-of_round.ensures.ranges c.seen_of-seen.ensures.harts c.seen_of-seen.ensures.round)),
)
