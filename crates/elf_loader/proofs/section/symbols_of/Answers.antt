use Rattle.std.proofs.Common.{sym, ◌∙◌, arith}
use Rattle.elf_loader.proofs.Searching.{other_section}
use Rattle.elf_loader.proofs.section.symbols_of.Goals as goal

pub headers-preserved : goal.headers-preserved
headers-preserved c = record {
  told =
      sym (other_section c.args.file.now c.headers.offset _ _ c.section_at-section.result c.section_at-section.ensures c.if-section-eq-SYMBOL_TABLE.false (omega (arith, c.headers-test.true, c.half_at-end.ensures)))
      ∙ c.headers.invariant.told;
  within = omega (arith, c.headers.invariant.within, c.headers-test.true, c.half_at-end.ensures);
}
