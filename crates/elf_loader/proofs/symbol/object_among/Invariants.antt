use Rattle.std.proofs.Common.{◌≡◌, ◌-◌, ◌*◌, ◌/◌, length}
use Rattle.elf_loader.specs.Symbols.{object_among, object_from}
use Rattle.elf_loader.proofs.symbol.object_among.Given as goal

-- what is left has the object
abbrev pub invariant-entries : goal.invariant-entries
invariant-entries l = record {
  told : object_from l.kind l.entries l.strings l.name l.offset (length l.entries / 24 - l.counter) ≡ object_among l.kind l.entries l.strings l.name;
  at : l.offset ≡ 24 * l.counter;
}
