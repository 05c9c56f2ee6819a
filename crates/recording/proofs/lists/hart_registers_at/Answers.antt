use Rattle.std.proofs.lemmas.List.{map-id}
use Rattle.std.proofs.Common.{Ok, subst, ◌≡◌, ◌+◌, ℕ, List, map, arith}
use Rattle.std.proofs.lemmas.Result.{err_from_is_err_and}
use Rattle.std.specs.Int.{w64}
use Rattle.recording.specs.Fields.{taken_each}
use Rattle.recording.specs.Grammar.{any}
use Rattle.recording.proofs.Loops.{goes_on, ends, is_done}
use Rattle.recording.proofs.lists.hart_registers_at.Goals as goal

pub returns-in_err-value : goal.returns-in_err-value
returns-in_err-value c =
    let p = err_from_is_err_and c.from_residual.result c.from_residual.ensures.1 in
    rw (p.1, p.2) (ends (λ x. any w64) c.in_err-value.field-0.0 (map (λ (n : ℕ). n) c.loop.registers.items) (31) c.loop.counter (1 + c.loop.counter) c.loop.rest.now (taken_each (31) 1 (λ x. any w64) c.args.bytes.now) c.loop-test.true c.in_err-value.ensures c.loop.invariant.1)

pub loop-preserved : goal.loop-preserved
loop-preserved c =
    (omega (arith, c.loop-test.true), rw c.in_ok-push.ensures.items (goes_on (λ x. any w64) (λ (n : ℕ). n) c.loop.registers.items (31) c.loop.counter (1 + c.loop.counter) (1 + (c.loop.counter + 1)) c.loop.rest.now c.in_ok-value.value c.in_ok-value.after.now (taken_each (31) 1 (λ x. any w64) c.args.bytes.now) c.loop-test.true (omega arith) c.in_ok-value.ensures c.loop.invariant.1))

pub returns : goal.returns
returns c = subst (λ (ns : List ℕ). taken_each 31 1 (λ x. any w64) c.args.bytes.now ≡ Ok (ns, c.loop.rest.now)) (map-id c.loop.registers.items) (is_done (λ x. any w64) (map (λ (n : ℕ). n) c.loop.registers.items) (31) c.loop.counter (1 + c.loop.counter) c.loop.rest.now (taken_each (31) 1 (λ x. any w64) c.args.bytes.now) c.loop-test.false c.loop.invariant.1)
