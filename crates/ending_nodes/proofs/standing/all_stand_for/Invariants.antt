use Rattle.std.proofs.Common.{take, Contains}
use Rattle.private_bytes.specs.PrivateWalks.{Spot}
use Rattle.list_suffixes.specs.SettledWalks.{AreAhead}
use Rattle.run_places.specs.Spots.{spots_of}
use Rattle.ending_nodes.proofs.standing.all_stand_for.Given as goal

abbrev pub invariant-loop-other : goal.invariant-loop-other
invariant-loop-other l = (p : Spot) → Contains (spots_of (take l.other-index l.others)) p → AreAhead (spots_of l.places) p
