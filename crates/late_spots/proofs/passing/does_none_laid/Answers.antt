use Rattle.std.proofs.Common.{◌≡◌, ℕ, false, slice_index_or, arith}
use Rattle.all_endings.specs.StoreLists.{no_store}
use Rattle.hart_states.specs.States.{listed, state_of}
use Rattle.list_suffixes.specs.Staying.{stays_at}
use Rattle.late_spots.specs.LateRuns.{IsDoneAt}
use Rattle.early_reads.proofs.StoresListed.{place_more}
use Rattle.late_spots.proofs.Settling.{each_laid}
use Rattle.late_spots.proofs.passing.does_none_laid.Goals as goal

pub loop-index-preserved : goal.loop-index-preserved
loop-index-preserved c =
    place_more (λ (j : ℕ). stays_at c.args.stays.now j ≡ false → IsDoneAt c.args.hart (state_of c.args.state.now) j (slice_index_or (listed c.args.list.now) j no_store)) c.loop-index.index
    (c.is_done_or_stays.ensures c.if-not-is_done_or_stays.false) c.loop-index.invariant

pub returns : goal.returns
returns c = λ held. each_laid (λ (j : ℕ). IsDoneAt c.args.hart (state_of c.args.state.now) j (slice_index_or (listed c.args.list.now) j no_store)) c.args.stays.now (λ j l. c.loop-index.invariant j (let over = c.loop-index-test.false in omega (arith, l, over)))
