use Rattle.std.proofs.Common.{◌≡◌, ℕ, false, ◌<◌, arith}
use Rattle.hart_states.specs.States.{state_of}
use Rattle.list_suffixes.specs.Staying.{stays_at}
use Rattle.early_reads.specs.Windows.{loads_from}
use Rattle.early_reads.proofs.StoresListed.{place_more}
use Rattle.late_spots.proofs.Settling.{each_laid}
use Rattle.late_spots.proofs.passing.has_passed_all.Goals as goal

pub loop-index-preserved : goal.loop-index-preserved
loop-index-preserved c =
    place_more (λ (j : ℕ). stays_at c.args.stays.now j ≡ false → j < loads_from (state_of c.args.state.now)) c.loop-index.index
    (c.is_early_or_stays.ensures c.if-not-is_early_or_stays.false) c.loop-index.invariant

pub returns : goal.returns
returns c = λ held. each_laid (λ (j : ℕ). j < loads_from (state_of c.args.state.now)) c.args.stays.now (λ j l. c.loop-index.invariant j (let over = c.loop-index-test.false in omega (arith, l, over)))
