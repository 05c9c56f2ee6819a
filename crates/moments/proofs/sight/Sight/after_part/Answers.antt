use Rattle.std.proofs.Common.{[], refl}
use Rattle.moments.proofs.Parts.{part_ended, shows_through}
use Rattle.moments.proofs.sight.Sight.after_part.Goals as goal

pub hart_round-requires : goal.hart_round-requires
hart_round-requires c = shows_through c.args.pages.memory c.new-view.result c.args.code.now.first c.args.code.now.instructions c.new-view.ensures c.requires

pub returns : goal.returns
returns c =
    let left = c.in_ok-_waits.ensures.round [] refl in
    part_ended c.args.pages.memory c.new-view.result c.hart_round.new.b c.args.quota c.args.hart c.hart_round.new.h [] left.0 c.in_ok-_waits._waits c.into_buffer-own.result c.new-view.ensures refl left.2 c.into_buffer-own.ensures
