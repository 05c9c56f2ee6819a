use Rattle.std.proofs.Common.{◌∙◌, ◌/◌, ap}
use Rattle.std.proofs.lemmas.List.{get_or_default}
use Rattle.pages.specs.Flat.{absent, full, in_page}
use Rattle.pages.specs.Memory.{put}
use Rattle.pages.proofs.Applied.{flat-put, ready-put}
use Rattle.pages.proofs.prepare.put_into.Goals as goal

pub returns-clause-bytes : goal.returns-clause-bytes
returns-clause-bytes c =
    let part = get_or_default c.args.parts.now (c.args.s.address / 4096) c.index-parts-s.result absent c.requires.page in
    flat-put c.args.parts.now c.apply.new.self c.args.s c.requires.page c.requires.aligned (c.apply.ensures.bytes ∙ ap (λ q. put (full q) (in_page c.args.s)) part)

pub returns-clause-ready : goal.returns-clause-ready
returns-clause-ready c = ready-put c.args.parts.now c.apply.new.self (c.args.s.address / 4096) c.requires.page c.requires.ready c.apply.ensures.ready
