use Rattle.std.proofs.Common.{◌≡◌, ◌∙◌, ◌++◌, ◌∷◌, ap, sym, rules, map, []}
use Rattle.pages.specs.Flat.{flat, is_ready}
use Rattle.pages.proofs.Laying.{bytes_from-none, pages_more, touched_more}
use Rattle.pages.proofs.making.parts_of.Goals as goal

pub loop-page-init : goal.loop-page-init
loop-page-init c = record {
  bytes = ap flat c.in_ok-parts.ensures.items ∙ sym (bytes_from-none c.args.pieces.now);
  ready = ap (map is_ready) c.in_ok-parts.ensures.items;
}

pub loop-page-preserved : goal.loop-page-preserved
loop-page-preserved c =
    let pushed : c.push.new.self.items ≡ c.loop-page.parts.items ++ c.in_ok-part_of.field-0 ∷ [] = search rules in
    record {
      bytes = ap flat pushed ∙ pages_more c.args.pieces.now c.loop-page.parts.items c.in_ok-part_of.field-0 c.loop-page.page c.loop-page.invariant.bytes c.in_ok-part_of.ensures.bytes;
      ready = ap (map is_ready) pushed ∙ touched_more c.args.pieces.now c.loop-page.parts.items c.in_ok-part_of.field-0 c.loop-page.page c.loop-page.invariant.ready c.in_ok-part_of.ensures.ready;
    }
