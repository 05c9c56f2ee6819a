use Rattle.std.proofs.Common.{◌≡◌, ◌<◌, ◌+◌, ◌-◌, ◌*◌, ◌^◌, IfSome}
use Rattle.hart_states.specs.Opening.{opening_of}
use Rattle.hart_states.specs.States.{state_of}
use Rattle.private_bytes.specs.PrivateMoves.{own_number}
use Rattle.own_moves.proofs.recalling.own_number.Given as goal

abbrev pub invariant-loop-back : goal.invariant-loop-back
invariant-loop-back l = record {
  is : l.number ≡ own_number (opening_of l.memory) (state_of l.state) (l.coming.operation.address + (l.count - l.back)) l.back;
  fits : IfSome l.number (λ n. n < 2 ^ (8 * l.back));
}
