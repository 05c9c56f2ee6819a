use Rattle.std.proofs.Common.{◌∙◌, refl}
use Rattle.std.proofs.lemmas.Result.{IfOk-weaker}
use Rattle.endings_finder.proofs.Fenced.{laid_without, nop_within}
use Rattle.endings_finder.proofs.program.Program.without.Goals as goal

pub laid-requires-clause-pieces : goal.laid-requires-clause-pieces
laid-requires-clause-pieces c =
    nop_within c.args.image c.args.pc c.pages-pages.result (record { start = c.args.pc; bytes = c.in_ok-from_slice.field-0 }) c.into_pieces-pieces.result.items c.insert.new.self.items c.requires
    c.pages-pages.ensures.pages c.into_pieces-pieces.ensures.bytes refl c.in_ok-from_slice.ensures.items c.into_pieces-pieces.ensures.within c.in_ok-insert.ensures.items

pub returns : goal.returns
returns c =
    let ps = c.into_pieces-pieces in
    let code = c.deref.ensures.value ∙ (c.in_ok-code.ensures.items ∙ c.code.ensures.code) in
    IfOk-weaker c.laid.result _ _ (λ l is.
    laid_without c.args.image l c.args.pc (record { start = c.args.pc; bytes = c.in_ok-from_slice.field-0 }) ps.result.items c.insert.new.self.items c.deref.result.now c.entry-entry.result
    c.pages-pages.result is c.in_ok-insert.ensures.items ps.ensures.bytes refl c.in_ok-from_slice.ensures.items code c.entry-entry.ensures.entry c.pages-pages.ensures.pages
    ) c.laid.ensures
