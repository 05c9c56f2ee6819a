use Rattle.std.proofs.Common.{◌≡◌, ◌<◌, ◌-◌, ◌++◌, ◌∙◌, List, ap, arith, drop, length, map, sym, take}
use Rattle.std.proofs.lemmas.List.{length-map}
use Rattle.round_schedule.specs.declared.access.Access.{Access}
use Rattle.trace.specs.declared.brief_access.BriefAccess.{BriefAccess}
use Rattle.trace.specs.Briefs.{in_turn, widened}
use Rattle.trace.proofs.Dropping.{rest_after, rest_within}
use Rattle.trace.proofs.brief_slice.+rest_of.Goals as goal

pub returns-then-index-len : goal.returns-then-index-len
returns-then-index-len t c =
    let base = c.group.inside.base in
    let briefs = c.group.inside.briefs.items in
    let others = in_turn c.in-Some.others.now in
    let all : in_turn c.args.groups.now ≡ map (widened base) briefs ++ others = ap in_turn c.in-Some.ensures.cases.0 ∙ ap (λ (as' : List Access). as' ++ others) (sym c.group.view_is) in
    let within : c.args.index < length briefs = omega (arith, c.if-index-len.true, c.len.ensures) in
    ap (λ (bs : List BriefAccess). map (widened base) (take (length bs - c.args.index) (drop c.args.index bs)) ++ others) c.deref.ensures.value
    ∙ rest_within (widened base) briefs others (in_turn c.args.groups.now) c.args.index within all

pub returns-else-index-len : goal.returns-else-index-len
returns-else-index-len t c =
    let briefs : c.len-else-index-len.result ≡ length c.group.inside.briefs.items = omega (arith, c.len-else-index-len.ensures) in
    let count : c.len-else-index-len.result ≡ length c.in-Some.group.now = briefs ∙ sym (length-map c.group.inside.briefs.items (widened c.group.inside.base)) ∙ ap length c.group.view_is in
    c.rest_of.ensures
    ∙ rest_after c.in-Some.group.now (in_turn c.in-Some.others.now) (in_turn c.args.groups.now) c.args.index c.len-else-index-len.result count (omega (arith, c.if-index-len.false, c.len.ensures, c.len-else-index-len.ensures)) (ap in_turn c.in-Some.ensures.cases.0)
