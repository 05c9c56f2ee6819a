use Rattle.std.proofs.Common.{rules, true, map, ◌∙◌}
use Rattle.std.proofs.lemmas.List.{get_or_default}
use Rattle.std.specs.List.{slice_set}
use Rattle.pages.specs.Flat.{absent, is_ready}
use Rattle.pages.specs.Paged.{count_unready}
use Rattle.pages.proofs.Readied.{count_left, flat-readied, ready-readied, some_left}
use Rattle.pages.proofs.prepare.use_spare.Goals as goal

pub returns-in-Some-clause-bytes : goal.returns-in-Some-clause-bytes
returns-in-Some-clause-bytes c =
    let part = c.index-parts-page.result in
    flat-readied c.args.parts.now c.args.page part c.take_spare.new.self c.requires.page (c.index-parts-page.is ∙ get_or_default c.args.parts.now c.args.page part absent c.requires.page) (search rules)

pub returns-in-Some-clause-ready : goal.returns-in-Some-clause-ready
returns-in-Some-clause-ready c = ready-readied c.args.parts.now c.args.page c.take_spare.new.self true c.take_spare.ensures.ready

pub count_less-requires : goal.count_less-requires
count_less-requires c = some_left c.args.unready.now c.args.parts.now c.args.page c.requires.page c.requires.unready c.requires.counted

pub returns-in-Some-clause-counted : goal.returns-in-Some-clause-counted
returns-in-Some-clause-counted c =
    let part = c.take_spare.new.self in
    c.count_less.ensures (count_unready (map is_ready (slice_set c.args.parts.now c.args.page part)))
    (count_left c.args.unready.now c.args.parts.now c.args.page part c.requires.page c.requires.unready c.take_spare.ensures.ready c.requires.counted)
