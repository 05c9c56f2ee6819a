use Rattle.std.proofs.Common.{◌∙◌, ◌+◌, refl}
use Rattle.hart_states.proofs.Opening.{byte_listed}
use Rattle.hart_states.proofs.opening_memory.left_by.Goals as goal

pub loop-store-preserved : goal.loop-store-preserved
loop-store-preserved c = λ opening before.
    let k = c.loop-store.store-index in
    c.byte_behind-byte.ensures
    ∙ byte_listed c.args.list.now opening c.args.address k (k + 1) c.loop-store.byte _ _ c.loop-store-test.true refl refl (c.loop-store.invariant opening before)
