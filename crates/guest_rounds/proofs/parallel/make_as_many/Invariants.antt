use Rattle.std.proofs.Common.{◌≡◌, vec_len}
use Rattle.guest_rounds.specs.HartEnds.{StoppedStay, harts_of}
use Rattle.guest_rounds.proofs.parallel.make_as_many.Given as goal

abbrev pub invariant-loop-number : goal.invariant-loop-number
invariant-loop-number l = record {
  count : vec_len l.ends ≡ l.number;
  kept : StoppedStay l.start.harts (harts_of l.ends.items);
}
