use Rattle.std.proofs.Common.{◌≡◌, ◌+◌, ◌-◌, ◌*◌, ◌≤◌, length}
use Rattle.elf_loader.specs.Symbols.{header_count_of, symbols_from, symbols_of}
use Rattle.elf_loader.proofs.section.symbols_of.Given as goal

-- what is left has the first symbol table, and lies in the file
abbrev pub invariant-headers : goal.invariant-headers
invariant-headers l = record {
  told : symbols_from l.file l.offset (header_count_of l.file - l.counter) ≡ symbols_of l.file;
  within : l.offset + 64 * (header_count_of l.file - l.counter) ≤ length l.file;
}
