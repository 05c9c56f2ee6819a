use Rattle.std.proofs.Common.{◌≡◌, [], ◌∙◌}
use Rattle.moments.proofs.Parts.{shows_through}
use Rattle.timelines.proofs.OwnPartsDone.{part_left}
use Rattle.timelines.proofs.own_part.walked.Goals as goal

pub hart_round-requires : goal.hart_round-requires
hart_round-requires c = shows_through c.pages-pages.result.now.memory c.new-view.result c.in_ok-decoded_code.decoded_code.first c.in_ok-decoded_code.decoded_code.instructions c.new-view.ensures c.in_ok-decoded_code.ensures.shows

pub returns-clause-accesses : goal.returns-clause-accesses
returns-clause-accesses c =
    let code : c.pages-pages.result.now.memory.code ≡ c.args.code.now = c.in_ok-decoded_code.ensures.same in
    let left = c.in_ok-waits.ensures.round [] c.new-accesses.ensures.items in
    left.1
    ∙ (part_left c.pages-pages.result.now.memory c.new-view.result c.hart_round.new.b c.args.code.now c.args.machine.now.bytes c.args.most c.args.hart c.hart_round.new.h left.0 c.in_ok-waits.waits
    c.new-view.ensures code c.pages-pages.ensures.bytes left.2).accesses

pub returns-clause-waits : goal.returns-clause-waits
returns-clause-waits c =
    let code : c.pages-pages.result.now.memory.code ≡ c.args.code.now = c.in_ok-decoded_code.ensures.same in
    let left = c.in_ok-waits.ensures.round [] c.new-accesses.ensures.items in
    (part_left c.pages-pages.result.now.memory c.new-view.result c.hart_round.new.b c.args.code.now c.args.machine.now.bytes c.args.most c.args.hart c.hart_round.new.h left.0 c.in_ok-waits.waits
    c.new-view.ensures code c.pages-pages.ensures.bytes left.2).waits
