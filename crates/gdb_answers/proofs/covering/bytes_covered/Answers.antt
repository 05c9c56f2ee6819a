use Rattle.std.proofs.Common.{refl}
use Rattle.gdb_answers.proofs.OverEachOther.{one_more}
use Rattle.gdb_answers.proofs.covering.bytes_covered.Goals as goal

pub loop-store-preserved : goal.loop-store-preserved
loop-store-preserved c =
    one_more c.args.stores.now c.loop-store.store-index _ _ c.loop-store.covered c.put.new.covered c.loop-store-test.true refl c.loop-store.invariant c.in_ok-put.ensures
