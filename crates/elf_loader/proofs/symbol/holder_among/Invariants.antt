use Rattle.std.proofs.Common.{◌≡◌, ◌-◌, ◌*◌, ◌/◌, length}
use Rattle.elf_loader.specs.Offsets.{holder_among, holder_from}
use Rattle.elf_loader.proofs.symbol.holder_among.Given as goal

-- what is left has the symbol
abbrev pub invariant-entries : goal.invariant-entries
invariant-entries l = record {
  told : holder_from l.kind l.entries l.address l.offset (length l.entries / 24 - l.counter) ≡ holder_among l.kind l.entries l.address;
  at : l.offset ≡ 24 * l.counter;
}
