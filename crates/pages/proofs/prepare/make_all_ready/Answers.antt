use Rattle.std.proofs.Common.{◌≡◌, ◌∙◌, ap, sym, subst, rules, map, true, false, get_or, Bool, List}
use Rattle.std.specs.List.{slice_set}
use Rattle.pages.specs.Flat.{is_ready}
use Rattle.pages.proofs.Readied.{ready_next, stays_ready}
use Rattle.pages.proofs.prepare.make_all_ready.Goals as goal

pub loop-page-preserved : goal.loop-page-preserved
loop-page-preserved c =
    let page = get_or c.args.pages.now c.loop-page.page-index 0 in
    let made : map is_ready c.make_ready.new.parts ≡ slice_set (map is_ready c.loop-page.parts) page true = search rules in
    record {
      bytes = search rules;
      ready = made ∙ ap (λ rs. slice_set rs page true) c.loop-page.invariant.ready ∙ sym (ready_next (map is_ready c.args.parts.now) c.args.pages.now c.loop-page.page-index (search rules));
      stays = λ p h. subst (λ (rs : List Bool). get_or rs p false ≡ true) (sym made) (stays_ready (map is_ready c.loop-page.parts) page p (c.loop-page.invariant.stays p h));
      spares = search rules;
      counted = search rules;
    }
