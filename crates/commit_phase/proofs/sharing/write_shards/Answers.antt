use Rattle.std.proofs.Common.{map, rules}
use Rattle.pages.specs.Flat.{absent}
use Rattle.commit_phase.specs.Commit.{all_buffered}
use Rattle.commit_phase.proofs.Sharding.{by_chunks}
use Rattle.commit_phase.proofs.sharing.write_shards.Goals as goal

pub returns : goal.returns
returns g c =
    by_chunks c.args.parts.now c.for_each_chunk_mut.new.s (all_buffered (map g.B.Buffered.bytes c.args.rounds.now)) (search rules)
    (λ k low.
    let r = (c.for_each_chunk_mut.ensures.by_index k absent low).1 in
    record {
      start = r.start;
      offset = r.offset;
      before = r.argument.now;
      behind = r.after_call.now;
      at = r.start_plus_offset;
      inside = r.offset_in_chunk;
      old = r.old_element;
      new = r.new_element;
      written = search (rules, r.call);
    })
