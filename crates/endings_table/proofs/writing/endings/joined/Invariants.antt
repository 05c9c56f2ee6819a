use Rattle.std.proofs.Common.{◌≡◌, ◌++◌, drop, flat_map}
use Rattle.endings_table.proofs.writing.endings.joined.Given as goal

abbrev pub invariant-loop-bytes : goal.invariant-loop-bytes
invariant-loop-bytes l = l.all.items ++ flat_map (λ bs. bs.items) (drop l.bytes-index l.seen) ≡ flat_map (λ bs. bs.items) l.seen
