use Rattle.std.proofs.Common.{◌≡◌, ◌+◌, ◌*◌, ◌%◌, ◌^◌, ap}
use Rattle.std.proofs.Math.Nat.{add-mod-mod}
use Rattle.round_planner.specs.Draws.{draw, mixed}
use Rattle.round_planner.proofs.split_mix.draw.Goals as goal

pub returns : goal.returns
unfolding draw
returns c =
    let state : (c.args.seed + (c.args.index + 1) * 11400714819323198485 % 2 ^ 64) % 2 ^ 64 ≡ (c.args.seed + (c.args.index + 1) * 11400714819323198485) % 2 ^ 64 =
    add-mod-mod c.args.seed ((c.args.index + 1) * 11400714819323198485) (2 ^ 64) in
    rw (c.folded-twice.ensures, c.folded-once.ensures) (ap mixed state)
