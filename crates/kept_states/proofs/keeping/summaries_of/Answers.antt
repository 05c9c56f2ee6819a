use Rattle.std.proofs.Common.{arith}
use Rattle.recording.specs.Grammar.{hart_summary}
use Rattle.recording.specs.Views.{hart_view}
use Rattle.kept_states.specs.Summaries.{hart_summary_of}
use Rattle.kept_states.proofs.Checkpoint.{have_seen, one_more_seen}
use Rattle.kept_states.proofs.keeping.summaries_of.Goals as goal

pub loop-place-preserved : goal.loop-place-preserved
loop-place-preserved c = (
  rw c.in_ok-add_summary.ensures.ok (one_more_seen hart_view hart_summary_of c.loop-place.summaries.items c.hart_summary_of.result c.args.harts.now c.loop-place.place _ c.loop-place-test.true c.hart_summary_of.ensures.summary c.loop-place.invariant.0),
  rw c.in_ok-add_summary.ensures.ok (have_seen hart_view c.loop-place.place 0 c.loop-place.place (λ i. hart_summary) c.loop-place.summaries.items c.hart_summary_of.result (omega arith) c.loop-place.invariant.1 c.hart_summary_of.ensures.ranges),
)
