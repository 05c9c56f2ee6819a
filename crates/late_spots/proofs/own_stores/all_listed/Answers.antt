use Rattle.std.proofs.Common.{arith}
use Rattle.std.proofs.lemmas.List.{get_or_default}
use Rattle.run_bounds.specs.declared.touched.TouchedByte.{TouchedByte}
use Rattle.hart_states.specs.States.{listed}
use Rattle.late_spots.specs.LateRuns.{IsOwnListed}
use Rattle.late_spots.proofs.OwnStores.{kept_each}
use Rattle.early_reads.proofs.StoresListed.{element_more}
use Rattle.late_spots.proofs.own_stores.all_listed.Goals as goal

pub loop-index-preserved : goal.loop-index-preserved
loop-index-preserved c =
    element_more (λ (b : TouchedByte). IsOwnListed (listed c.args.list.now) b.address b) c.args.bytes.now c.loop-index.index _ c.loop-index-test.true
    (get_or_default c.args.bytes.now c.loop-index.index _ _ c.loop-index-test.true)
    (c.is_own_listed.ensures c.if-not-is_own_listed.false) c.loop-index.invariant

pub returns : goal.returns
returns c = λ held.
    kept_each (IsOwnListed (listed c.args.list.now)) c.args.bytes.now (λ y o e. absurd (cc)) (λ k d l. c.loop-index.invariant k d (let over = c.loop-index-test.false in omega (arith, l, over)))
