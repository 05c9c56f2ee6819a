use Rattle.std.proofs.Common.{take}
use Rattle.elf_loader.specs.ElfTests.{ArePieces}
use Rattle.elf_loader.proofs.elf.pieces_of.Given as goal

-- the pieces of the segments so far
abbrev pub invariant-loop-segment : goal.invariant-loop-segment
invariant-loop-segment l = ArePieces l.file (take l.segment-index l.segments) l.pieces.items
