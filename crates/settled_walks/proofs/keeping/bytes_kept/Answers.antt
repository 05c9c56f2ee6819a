use Rattle.std.proofs.Common.{ap, ◌∙◌, arith}
use Rattle.std.proofs.lemmas.List.{get_or_default}
use Rattle.hart_states.specs.States.{listed}
use Rattle.run_bounds.specs.declared.touched.TouchedByte.{TouchedByte}
use Rattle.run_bounds.specs.Touched.{untouched}
use Rattle.settled_walks.specs.Kept.{byte_kept}
use Rattle.settled_walks.proofs.KeptBytes.{all_kept, more_kept, none_kept}
use Rattle.settled_walks.proofs.keeping.bytes_kept.Goals as goal

pub loop-index-init : goal.loop-index-init
loop-index-init c = λ x. none_kept c.args.stays.now (listed c.args.list.now) c.args.bytes.now c.new-kept.result.items x c.new-kept.ensures.items

pub loop-index-preserved : goal.loop-index-preserved
loop-index-preserved c = λ x.
    let within = c.loop-index-test.true in
    more_kept c.args.stays.now (listed c.args.list.now) c.loop-index.index c.args.bytes.now c.loop-index.kept.items c.add_known.new.kept.items _ x c.byte_kept.result
    (λ d. ap (λ (y : TouchedByte). y.address) (get_or_default c.args.bytes.now c.loop-index.index d (untouched 0) (omega (arith, within))))
    (c.byte_kept.ensures ∙ ap (byte_kept c.args.stays.now (listed c.args.list.now)) c.byte_known-byte.ensures) c.in_ok-add_known.ensures (c.loop-index.invariant x)

pub returns : goal.returns
returns c =
    let over = c.loop-index-test.false in
    all_kept c.args.stays.now (listed c.args.list.now) c.loop-index.index c.args.bytes.now c.loop-index.kept.items (omega (arith, over)) c.loop-index.invariant
