use Rattle.std.proofs.Common.{ℕ, ◌-◌, ap, get_or}
use Rattle.recording.specs.Views.{checkpoint_view}
use Rattle.replayer.proofs.Compared.{compared_round}
use Rattle.replayer.proofs.replaying.ComparingVisitor.after_round.Goals as goal

pub returns-in-Same-clause-known : goal.returns-in-Same-clause-known
returns-in-Same-clause-known g c = λ first start rounds done few h d. (
  h.0,
  h.1,
  h.2,
  compared_round checkpoint_view c.args.self.now.checkpoints.now first.checkpoints.now c.args.self.now.every first.every (c.rounds-round.result - 1) (get_or c.args.self.now.checkpoints.now (c.rounds-round.result - 1) c.index-self-round.result) c.seen_of-seen.result
      start c.args.machine.now first.verdict c.args.self.now.verdict c.next_verdict-self.result rounds done h.0 h.1 few h.3 d (ap (λ (n : ℕ). n - 1) c.rounds-round.ensures)
      c.seen_of-seen.ensures.round (ap (get_or c.args.self.now.checkpoints.now (c.rounds-round.result - 1)) c.index-self-round.is) c.seen_of-seen.ensures.seen c.next_verdict-self.ensures,
)

pub returns-in-Differs-clause-known : goal.returns-in-Differs-clause-known
returns-in-Differs-clause-known g c = λ first start rounds done few h d. (
  h.0,
  h.1,
  h.2,
  compared_round checkpoint_view c.args.self.now.checkpoints.now first.checkpoints.now c.args.self.now.every first.every (c.rounds-round.result - 1) (get_or c.args.self.now.checkpoints.now (c.rounds-round.result - 1) c.index-self-round.result) c.seen_of-seen.result
      start c.args.machine.now first.verdict c.args.self.now.verdict c.next_verdict-self.result rounds done h.0 h.1 few h.3 d (ap (λ (n : ℕ). n - 1) c.rounds-round.ensures)
      c.seen_of-seen.ensures.round (ap (get_or c.args.self.now.checkpoints.now (c.rounds-round.result - 1)) c.index-self-round.is) c.seen_of-seen.ensures.seen c.next_verdict-self.ensures,
)

pub returns-in-Differs-2-clause-known : goal.returns-in-Differs-2-clause-known
returns-in-Differs-2-clause-known g c = λ first start rounds done few h d. (
  h.0,
  h.1,
  h.2,
  compared_round checkpoint_view c.args.self.now.checkpoints.now first.checkpoints.now c.args.self.now.every first.every (c.rounds-round.result - 1) (get_or c.args.self.now.checkpoints.now (c.rounds-round.result - 1) c.index-self-round.result) c.seen_of-seen.result
      start c.args.machine.now first.verdict c.args.self.now.verdict c.next_verdict-self.result rounds done h.0 h.1 few h.3 d (ap (λ (n : ℕ). n - 1) c.rounds-round.ensures)
      c.seen_of-seen.ensures.round (ap (get_or c.args.self.now.checkpoints.now (c.rounds-round.result - 1)) c.index-self-round.is) c.seen_of-seen.ensures.seen c.next_verdict-self.ensures,
)
