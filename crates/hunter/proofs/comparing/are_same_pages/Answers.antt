use Rattle.hunter.proofs.Pagewise.{one_more}
use Rattle.hunter.proofs.comparing.are_same_pages.Goals as goal

pub loop-page-preserved : goal.loop-page-preserved
loop-page-preserved c =
    one_more c.args.pages.now.memory.bytes c.args.others.now.memory.bytes c.loop-page.page c.loop-page.invariant
    (c.is_same_page.ensures.0 c.if-not-is_same_page.false)
