use Rattle.std.proofs.Common.{◌+◌, ◌-◌, ◌/◌, length, Some, sym, ◌∙◌, ap, arith}
use Rattle.elf_loader.specs.Symbols.{is_named, object_at}
use Rattle.elf_loader.proofs.Searching.{object_here, other_symbol}
use Rattle.elf_loader.proofs.symbol.object_among.Goals as goal

pub returns-then-is_named : goal.returns-then-is_named
returns-then-is_named c =
    ap Some (c.object.ensures ∙ ap object_at c.at-symbol.ensures)
    ∙ sym (object_here c.args.kind c.args.entries.now c.args.strings.now c.args.name.now c.entries.offset (length c.args.entries.now / 24 - (c.entries.counter + 1)) _
    (sym (c.if-is_named.ensures ∙ ap (is_named c.args.kind c.args.strings.now c.args.name.now) c.at-symbol.ensures)) (omega (arith, c.entries-test.true)))
    ∙ c.entries.invariant.told

pub entries-preserved : goal.entries-preserved
entries-preserved c = record {
  told =
      sym (other_symbol c.args.kind c.args.entries.now c.args.strings.now c.args.name.now c.entries.offset _ _
      (sym (c.if-is_named.ensures ∙ ap (is_named c.args.kind c.args.strings.now c.args.name.now) c.at-symbol.ensures)) (omega (arith, c.entries-test.true)))
      ∙ c.entries.invariant.told;
  at = omega (arith, c.entries.invariant.at);
}
