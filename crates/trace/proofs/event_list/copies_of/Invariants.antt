use Rattle.std.proofs.Common.{◌≡◌, take}
use Rattle.trace.specs.Chunks.{AreChunks, joined}
use Rattle.trace.proofs.event_list.copies_of.Given as goal

abbrev pub invariant-loop-chunk : goal.invariant-loop-chunk
invariant-loop-chunk l = record {
  stand : AreChunks l.copies.items;
  same : joined l.copies.items ≡ joined (take l.chunk-index l.chunks);
}
