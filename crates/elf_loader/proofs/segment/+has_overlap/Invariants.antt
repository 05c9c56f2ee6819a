use Rattle.std.proofs.Common.{length}
use Rattle.elf_loader.proofs.segment.+has_overlap.Given as goal

abbrev pub decreases-has_overlap : goal.decreases-has_overlap
decreases-has_overlap l = length l.segments.now
