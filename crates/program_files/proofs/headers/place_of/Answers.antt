use Rattle.std.proofs.Common.{◌∙◌, arith, sym}
use Rattle.program_files.proofs.Places.{header_other}
use Rattle.program_files.proofs.headers.place_of.Goals as goal

pub headers-preserved : goal.headers-preserved
headers-preserved c = record {
  told =
      header_other c.args.file.now c.args.address c.headers.header _ _ c.place_at-place.result (omega (arith, c.headers-test.true)) c.place_at-place.ensures.place (sym c.is_some.ensures ∙ c.if-is_some.false)
      ∙ c.headers.invariant.told;
  within = omega (arith, c.headers.invariant.within, c.headers-test.true);
}
