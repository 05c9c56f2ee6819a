use Rattle.std.proofs.Common.{◌≡◌, arith, length}
use Rattle.std.proofs.lemmas.Grind.{common_steps}
use Rattle.gdb_packets.proofs.Ended.{short_read}
use Rattle.gdb_packets.proofs.payload.payload_of.Goals as goal

pub returns : goal.returns
returns c =
    let all : length c.loop-rest.rest.now ≡ 0 = grind (arith, common_steps) in
    short_read c.loop-rest.payload.items c.loop-rest.rest.now c.args.bytes.now all c.loop-rest.invariant.read c.loop-rest.invariant.short
