use Rattle.std.proofs.Common.{◌≡◌, ◌<◌, ℕ}
use Rattle.std.specs.Prelude.{slice_index}
use Rattle.round_planner.specs.Quotas.{quota_of}
use Rattle.guest_rounds.proofs.parallel.set_quotas.Given as goal

abbrev pub invariant-loop-hart : goal.invariant-loop-hart
invariant-loop-hart l = (h : ℕ) → h < l.hart → slice_index l.quotas h ≡ quota_of l.plan l.round h
