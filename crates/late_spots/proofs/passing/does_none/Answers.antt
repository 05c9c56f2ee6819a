use Rattle.std.proofs.Common.{ℕ, slice_index_or}
use Rattle.all_endings.specs.StoreLists.{no_store}
use Rattle.hart_states.specs.States.{listed, state_of}
use Rattle.late_spots.specs.LateRuns.{IsDoneAt}
use Rattle.early_reads.proofs.StoresListed.{place_more}
use Rattle.late_spots.proofs.passing.does_none.Goals as goal

pub loop-index-preserved : goal.loop-index-preserved
loop-index-preserved c =
    place_more (λ (j : ℕ). IsDoneAt c.args.hart (state_of c.args.state.now) j (slice_index_or (listed c.args.list.now) j no_store)) c.loop-index.index
    (c.is_done_at.ensures c.if-not-is_done_at.false) c.loop-index.invariant
