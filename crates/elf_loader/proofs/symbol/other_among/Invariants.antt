use Rattle.std.proofs.Common.{◌≡◌, ◌-◌, ◌*◌, ◌/◌, length}
use Rattle.elf_loader.specs.Symbols.{other_among, other_from}
use Rattle.elf_loader.proofs.symbol.other_among.Given as goal

-- what is left has another one if all of them have
abbrev pub invariant-entries : goal.invariant-entries
invariant-entries l = record {
  told : other_from l.kind l.entries l.strings l.name l.address l.offset (length l.entries / 24 - l.counter) ≡ other_among l.kind l.entries l.strings l.name l.address;
  at : l.offset ≡ 24 * l.counter;
}
