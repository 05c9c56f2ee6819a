use Rattle.std.proofs.Common.{◌<◌, ◌∙◌, false, length, map, arith, rules}
use Rattle.std.specs.List.{slice_set}
use Rattle.std.proofs.lemmas.List.{get_or_default, length-map}
use Rattle.pages.specs.Flat.{absent, is_ready}
use Rattle.pages.proofs.Page.{full_same}
use Rattle.pages.proofs.Readied.{flat-readied, ready-readied, unready_more}
use Rattle.pages.proofs.making.share_all.Goals as goal

pub returns-in_err-share-clause-bytes : goal.returns-in_err-share-clause-bytes
returns-in_err-share-clause-bytes c =
    let part = c.index-parts-page.result in
    let inside : c.loop-page.page < length c.loop-page.parts = search rules in
    flat-readied c.loop-page.parts c.loop-page.page part c.share.new.self inside (c.index-parts-page.is ∙ get_or_default c.loop-page.parts c.loop-page.page part absent inside) (full_same c.share.new.self part (search rules)) ∙ c.loop-page.invariant.bytes

pub loop-page-preserved : goal.loop-page-preserved
loop-page-preserved c =
    let part = c.index-parts-page.result in
    let inside : c.loop-page.page < length c.loop-page.parts = search rules in
    record {
      bytes = flat-readied c.loop-page.parts c.loop-page.page part c.share.new.self inside (c.index-parts-page.is ∙ get_or_default c.loop-page.parts c.loop-page.page part absent inside) (full_same c.share.new.self part (search rules)) ∙ c.loop-page.invariant.bytes;
      unready = unready_more (map is_ready c.loop-page.parts) (map is_ready (slice_set c.loop-page.parts c.loop-page.page c.share.new.self)) c.loop-page.page (omega (arith, inside, length-map c.loop-page.parts is_ready)) c.loop-page.invariant.unready
          (ready-readied c.loop-page.parts c.loop-page.page c.share.new.self false (search rules));
    }
