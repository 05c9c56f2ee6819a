use Rattle.std.proofs.Common.{◌+◌, ◌-◌, ◌/◌, length, sym, ◌∙◌, ap, arith}
use Rattle.elf_loader.specs.Symbols.{is_other}
use Rattle.elf_loader.proofs.Searching.{no_other_here, other_here}
use Rattle.elf_loader.proofs.symbol.other_among.Goals as goal

pub returns-then-is_other : goal.returns-then-is_other
returns-then-is_other c =
    sym (other_here c.args.kind c.args.entries.now c.args.strings.now c.args.name.now c.args.address c.entries.offset (length c.args.entries.now / 24 - (c.entries.counter + 1)) _
    (sym (c.if-is_other.ensures ∙ ap (is_other c.args.kind c.args.strings.now c.args.name.now c.args.address) c.at-symbol.ensures)) (omega (arith, c.entries-test.true)))
    ∙ c.entries.invariant.told

pub entries-preserved : goal.entries-preserved
entries-preserved c = record {
  told =
      sym (no_other_here c.args.kind c.args.entries.now c.args.strings.now c.args.name.now c.args.address c.entries.offset _ _
      (sym (c.if-is_other.ensures ∙ ap (is_other c.args.kind c.args.strings.now c.args.name.now c.args.address) c.at-symbol.ensures)) (omega (arith, c.entries-test.true)))
      ∙ c.entries.invariant.told;
  at = omega (arith, c.entries.invariant.at);
}
