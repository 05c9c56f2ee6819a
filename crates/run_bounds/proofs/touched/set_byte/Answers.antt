use Rattle.std.proofs.Common.{◌==◌, if◌then◌else◌, List, ap, ◌∙◌, arith}
use Rattle.run_bounds.specs.declared.touched.TouchedByte.{TouchedByte}
use Rattle.run_bounds.specs.Touched.{known_at}
use Rattle.run_bounds.proofs.KnownBytes.{known_push, known_set}
use Rattle.run_bounds.proofs.touched.set_byte.Goals as goal

pub returns-then-index-byte : goal.returns-then-index-byte
returns-then-index-byte c =
    λ x.
    known_set c.loop-index.bytes.items c.loop-index.index c.args.byte x (omega arith) c.loop-index.invariant.before c.index.result.now c.index.ensures c.if-index-byte.true
    ∙ ap (λ (s : List TouchedByte). if c.args.byte.address == x then c.args.byte else known_at s x) c.loop-index.invariant.same

pub returns : goal.returns
returns c =
    λ x.
    ap (λ (s : List TouchedByte). known_at s x) c.in_ok-push.ensures.items
    ∙ known_push c.loop-index.bytes.items c.args.byte x (λ k b l e. c.loop-index.invariant.before k b (omega (arith, l)) e)
    ∙ ap (λ (s : List TouchedByte). if c.args.byte.address == x then c.args.byte else known_at s x) c.loop-index.invariant.same
