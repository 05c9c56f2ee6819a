use Rattle.std.proofs.Common.{ℕ, ◌%◌, ◌-◌, ◌∷◌, [], ◌++◌, ◌∙◌, arith, ap}
use Rattle.hunt_table.proofs.Loops.{no_bytes, one_byte}
use Rattle.hunt_table.proofs.reading.seen.add_bytes.Goals as goal

pub bytes-preserved : goal.bytes-preserved
bytes-preserved c =
    one_byte _ (c.args.count - c.bytes.counter) c.bytes.rest.now _ c.bytes.bytes.items _ _ (omega (arith, c.bytes-test.true)) c.skip-rest.ensures
    (c.in_ok-push.ensures ∙ ap (λ (n : ℕ). c.bytes.bytes.items ++ n % 256 ∷ []) c.hex_at.ensures) c.bytes.invariant

pub returns : goal.returns
returns c = no_bytes (c.args.count - c.bytes.counter) c.bytes.rest.now c.bytes.bytes.items _ (omega (arith, c.bytes-test.false)) c.bytes.invariant
