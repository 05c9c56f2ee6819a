use Rattle.std.proofs.Common.{ℕ, ◌+◌, ◌-◌, List, true, refl, subst, sym, arith}
use Rattle.hunt_table.specs.Reading.{quoted_at, quoted_byte_at}
use Rattle.hunt_table.proofs.Loops.{Goes, goes_end, goes_on}
use Rattle.hunt_table.proofs.reading.output.quoted_at.Goals as goal

pub bytes-preserved : goal.bytes-preserved
bytes-preserved c =
    let total = quoted_at c.args.count c.args.text.now in
    let left = c.args.count - (c.bytes.counter + 1) in
    subst (λ (v : List ℕ). Goes (λ _. true) quoted_byte_at left c.quoted_byte_at-byte.result.1.now v total) (sym c.in_ok-push.ensures)
    (goes_on (λ _. true) quoted_byte_at left (c.args.count - c.bytes.counter) c.bytes.rest.now c.quoted_byte_at-byte.result.1.now c.quoted_byte_at-byte.result.0 c.bytes.bytes.items total
    (omega (arith, c.bytes-test.true)) refl c.quoted_byte_at-byte.ensures.byte c.quoted_byte_at-byte.ensures.rest c.bytes.invariant)

pub returns-clause-bytes : goal.returns-clause-bytes
returns-clause-bytes c =
    (goes_end (λ _. true) quoted_byte_at (c.args.count - c.bytes.counter) c.bytes.rest.now c.bytes.bytes.items (quoted_at c.args.count c.args.text.now) (omega (arith, c.bytes-test.false)) c.bytes.invariant).parts

pub returns-clause-rest : goal.returns-clause-rest
returns-clause-rest c =
    (goes_end (λ _. true) quoted_byte_at (c.args.count - c.bytes.counter) c.bytes.rest.now c.bytes.bytes.items (quoted_at c.args.count c.args.text.now) (omega (arith, c.bytes-test.false)) c.bytes.invariant).rest
