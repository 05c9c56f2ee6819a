use Rattle.std.proofs.Common.{◌≡◌, ℕ, List, Ok, length, map, arith, subst}
use Rattle.std.proofs.lemmas.List.{map-id}
use Rattle.std.proofs.lemmas.Result.{err_from_is_err_and}
use Rattle.execution_file.specs.Grammar.{double}
use Rattle.execution_file.specs.Formats.{taken_list}
use Rattle.execution_file.proofs.WordLoops.{list_breaks, list_cut, list_ends, list_fails, list_goes, list_spent}
use Rattle.execution_file.proofs.lists.numbers_at.Goals as goal

pub returns-in_default : goal.returns-in_default
returns-in_default c = rw c.refused.ensures (list_cut double (map (λ (n : ℕ). n) c.loop.numbers.items) (length c.args.bytes.now) c.loop.counter c.loop.rest.now (taken_list (length c.args.bytes.now) double c.args.bytes.now) c.loop-test.true c.in_default.ensures.cases c.loop.invariant.1)

pub returns-then-first-eq10 : goal.returns-then-first-eq10
returns-then-first-eq10 c = subst (λ (ns : List ℕ). taken_list (length c.args.bytes.now) double c.args.bytes.now ≡ Ok (ns, c.in-Some.after.now)) (map-id c.loop.numbers.items) (list_ends double (map (λ (n : ℕ). n) c.loop.numbers.items) (length c.args.bytes.now) c.loop.counter c.in-Some.first.now c.loop.rest.now c.in-Some.after.now (taken_list (length c.args.bytes.now) double c.args.bytes.now) c.loop-test.true c.in-Some.ensures.cases.0 c.if-first-eq10.true c.loop.invariant.1)

pub returns-then-first-ne32 : goal.returns-then-first-ne32
returns-then-first-ne32 c = rw c.refused-then-first-ne32.ensures (list_breaks double (map (λ (n : ℕ). n) c.loop.numbers.items) (length c.args.bytes.now) c.loop.counter c.in-Some.first.now c.loop.rest.now c.in-Some.after.now (taken_list (length c.args.bytes.now) double c.args.bytes.now) c.loop-test.true c.in-Some.ensures.cases.0 (λ e. omega (arith, e, c.if-first-ne32.true)) (λ e. omega (arith, e, c.if-first-eq10.false)) c.loop.invariant.1)

pub returns-in_err-number : goal.returns-in_err-number
returns-in_err-number c =
    let p = err_from_is_err_and c.from_residual.result c.from_residual.ensures.1 in
    rw (p.1, p.2) (list_fails double c.in_err-number.field-0.0 (map (λ (n : ℕ). n) c.loop.numbers.items) (length c.args.bytes.now) c.loop.counter c.in-Some.first.now c.loop.rest.now c.in-Some.after.now (taken_list (length c.args.bytes.now) double c.args.bytes.now) c.loop-test.true c.in-Some.ensures.cases.0 c.if-first-ne32.false c.in_err-number.ensures.gives c.loop.invariant.1)

pub loop-preserved : goal.loop-preserved
loop-preserved c =
    (omega (arith, c.loop-test.true), rw c.in_ok-push.ensures.items (list_goes double (λ (n : ℕ). n) c.loop.numbers.items (length c.args.bytes.now) c.loop.counter c.in-Some.first.now c.loop.rest.now c.in-Some.after.now c.in_ok-number.number c.in_ok-number.after.now (taken_list (length c.args.bytes.now) double c.args.bytes.now) c.loop-test.true c.in-Some.ensures.cases.0 c.if-first-ne32.false c.in_ok-number.ensures.gives c.loop.invariant.1))

pub returns : goal.returns
returns c = rw c.refused-end.ensures (list_spent double (map (λ (n : ℕ). n) c.loop.numbers.items) (length c.args.bytes.now) c.loop.counter c.loop.rest.now (taken_list (length c.args.bytes.now) double c.args.bytes.now) c.loop-test.false c.loop.invariant.1)
