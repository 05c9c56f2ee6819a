use Rattle.std.proofs.Common.{ℕ, ◌<◌, Contains}
use Rattle.private_bytes.specs.PrivateWalks.{Spot}
use Rattle.list_suffixes.specs.SettledWalks.{AreAhead}
use Rattle.ending_nodes.specs.KeptNodes.{spots_at}
use Rattle.ending_nodes.proofs.standing.each_stand_for.Given as goal

abbrev pub invariant-loop-hart : goal.invariant-loop-hart
invariant-loop-hart l = (h : ℕ) (p : Spot) → h < l.hart → Contains (spots_at l.others h) p → AreAhead (spots_at l.places h) p
