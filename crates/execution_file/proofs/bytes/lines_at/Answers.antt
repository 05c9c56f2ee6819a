use Rattle.std.proofs.Common.{◌≡◌, ◌+◌, ℕ, List, Ok, map, arith, refl, subst}
use Rattle.std.proofs.lemmas.List.{map-id}
use Rattle.std.proofs.lemmas.Result.{err_from_is_err_and}
use Rattle.execution_file.specs.Grammar.{is_line_end}
use Rattle.execution_file.specs.Formats.{broken, byte, taken_each}
use Rattle.execution_file.proofs.Loops.{goes_on, ends, is_done}
use Rattle.execution_file.proofs.bytes.lines_at.Goals as goal

pub returns-in_err-byte : goal.returns-in_err-byte
returns-in_err-byte c =
    let p = err_from_is_err_and c.from_residual.result c.from_residual.ensures.1 in
    rw (p.1, p.2) (ends (λ i. broken (is_line_end c.args.count i) byte) c.in_err-byte.field-0.0 (map (λ (n : ℕ). n) c.loop-index.all.items) c.args.count c.loop-index.index c.loop-index.index c.loop-index.rest.now (taken_each c.args.count 0 (λ i. broken (is_line_end c.args.count i) byte) c.args.bytes.now) c.loop-index-test.true c.in_err-byte.ensures c.loop-index.invariant.1)

pub loop-index-preserved : goal.loop-index-preserved
loop-index-preserved c =
    (omega (arith, c.loop-index-test.true), rw c.in_ok-push.ensures.items (goes_on (λ i. broken (is_line_end c.args.count i) byte) (λ (n : ℕ). n) c.loop-index.all.items c.args.count c.loop-index.index c.loop-index.index (c.loop-index.index + 1) c.loop-index.rest.now c.in_ok-byte.byte c.in_ok-byte.after.now (taken_each c.args.count 0 (λ i. broken (is_line_end c.args.count i) byte) c.args.bytes.now) c.loop-index-test.true refl c.in_ok-byte.ensures c.loop-index.invariant.1))

pub returns : goal.returns
returns c = subst (λ (ns : List ℕ). taken_each c.args.count 0 (λ i. broken (is_line_end c.args.count i) byte) c.args.bytes.now ≡ Ok (ns, c.loop-index.rest.now)) (map-id c.loop-index.all.items) (is_done (λ i. broken (is_line_end c.args.count i) byte) (map (λ (n : ℕ). n) c.loop-index.all.items) c.args.count c.loop-index.index c.loop-index.index c.loop-index.rest.now (taken_each c.args.count 0 (λ i. broken (is_line_end c.args.count i) byte) c.args.bytes.now) c.loop-index-test.false c.loop-index.invariant.1)
