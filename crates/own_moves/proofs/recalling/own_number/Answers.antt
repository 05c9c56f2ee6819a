use Rattle.std.proofs.Common.{◌≡◌, ℕ, ◌+◌, ◌-◌, sym, ap, ◌∙◌, arith}
use Rattle.hart_states.specs.Opening.{opening_of}
use Rattle.run_bounds.specs.Touched.{untouched}
use Rattle.hart_states.specs.States.{state_of}
use Rattle.private_bytes.specs.PrivateMoves.{left_by, own_byte}
use Rattle.own_moves.proofs.Numbers.{more_bits, own_more}
use Rattle.own_moves.proofs.recalling.own_number.Goals as goal

pub loop-back-preserved : goal.loop-back-preserved
loop-back-preserved c =
    let address = c.args.coming.now.operation.address in
    let count = c.bytes-count.result in
    let back = c.loop-back.back in
    let l = c.loop-back-test.true in
    let place = count - 1 - back in
    let at : count - (back + 1) ≡ place = omega arith in
    let first : own_byte (opening_of c.args.memory.now) (state_of c.args.state.now) (address + (count - (back + 1))) ≡ c.own_byte.result =
    ap (λ (p : ℕ). own_byte (opening_of c.args.memory.now) (state_of c.args.state.now) (address + p)) at
    ∙ ap (left_by (opening_of c.args.memory.now (address + place))) (c.requires.coming.span.own place (untouched 0) (let b = c.bytes-count.ensures in omega (arith, l, b)))
    ∙ sym c.own_byte.ensures in
    record {
      is = c.joined-number.ensures.is
          ∙ own_more (opening_of c.args.memory.now) (state_of c.args.state.now) (address + (count - (back + 1))) (address + (count - back)) back (back + 1) c.own_byte.result c.loop-back.number
          (omega arith) (omega (arith, l)) first c.loop-back.invariant.is;
      fits = more_bits back c.joined-number.result (c.joined-number.ensures.grows _ c.loop-back.invariant.fits);
    }
