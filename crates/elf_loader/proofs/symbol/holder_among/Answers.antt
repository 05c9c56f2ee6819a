use Rattle.std.proofs.Common.{◌+◌, ◌-◌, ◌/◌, length, Some, sym, ◌∙◌, ap, arith}
use Rattle.elf_loader.specs.Offsets.{has_address}
use Rattle.elf_loader.proofs.Holding.{holder_here, other_holder}
use Rattle.elf_loader.proofs.symbol.holder_among.Goals as goal

pub returns-then-has_address : goal.returns-then-has_address
returns-then-has_address c =
    ap Some c.at-symbol.ensures
    ∙ sym (holder_here c.args.kind c.args.entries.now c.args.address c.entries.offset (length c.args.entries.now / 24 - (c.entries.counter + 1)) _
    (sym (c.if-has_address.ensures ∙ ap (has_address c.args.kind c.args.address) c.at-symbol.ensures)) (omega (arith, c.entries-test.true)))
    ∙ c.entries.invariant.told

pub entries-preserved : goal.entries-preserved
entries-preserved c = record {
  told =
      sym (other_holder c.args.kind c.args.entries.now c.args.address c.entries.offset _ _
      (sym (c.if-has_address.ensures ∙ ap (has_address c.args.kind c.args.address) c.at-symbol.ensures)) (omega (arith, c.entries-test.true)))
      ∙ c.entries.invariant.told;
  at = omega (arith, c.entries.invariant.at);
}
