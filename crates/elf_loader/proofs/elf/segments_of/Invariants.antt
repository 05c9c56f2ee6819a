use Rattle.std.proofs.Common.{◌≡◌, ◌+◌, ◌-◌, ◌*◌, ◌≤◌, ◌++◌, length}
use Rattle.elf_loader.specs.Segments.{segments_from, segments_of}
use Rattle.elf_loader.proofs.elf.segments_of.Given as goal

-- the segments so far and those of what is left are those of the file, and what is left lies in the file
abbrev pub invariant-headers : goal.invariant-headers
invariant-headers l = record {
  told : l.segments.items ++ segments_from l.file l.offset (l.count - l.counter) ≡ segments_of l.file;
  within : l.offset + 56 * (l.count - l.counter) ≤ length l.file;
}
