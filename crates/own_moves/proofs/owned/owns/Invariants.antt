use Rattle.std.proofs.Common.{◌≡◌, drop}
use Rattle.own_moves.specs.Owned.{owns_of}
use Rattle.own_moves.proofs.owned.owns.Given as goal

abbrev pub invariant-loop-own : goal.invariant-loop-own
invariant-loop-own l = owns_of (drop l.own-index l.owned) l.hart l.number ≡ owns_of l.owned l.hart l.number
