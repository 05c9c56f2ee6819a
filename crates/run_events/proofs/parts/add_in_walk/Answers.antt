use Rattle.std.proofs.Common.{◌≡◌, ◌++◌, ℕ, List, Option, map, take, ap, subst, sym, ◌∙◌, arith}
use Rattle.std.proofs.lemmas.Result.{IfOk-weaker}
use Rattle.pages.specs.Memory.{Memory}
use Rattle.hart_step.specs.Buffered.{Overlay, seen_through}
use Rattle.hart_step.specs.DecodedCode.{Shows}
use Rattle.hart_step.specs.declared.hart.Hart.{Hart}
use Rattle.moments.specs.Pcs.{pc_in}
use Rattle.run_events.proofs.InParts.{all_of_part, is_memory, same_quota, walk_is}
use Rattle.run_events.proofs.parts.add_in_walk.Goals as goal

pub add_pcs_in_part-requires-clause-shows : goal.add_pcs_in_part-requires-clause-shows
add_pcs_in_part-requires-clause-shows c =
    let u = c.args.machine.now in
    let memory : c.pages-pages.result.now.memory ≡ record { bytes = u.bytes; code = u.code } =
    is_memory u c.pages-pages.result.now.memory c.pages-pages.ensures.bytes c.pages-pages.ensures.code in
    subst (λ (v : Overlay). Shows (seen_through v) c.args.code.now.first c.args.code.now.instructions) (sym c.new-view.ensures)
    (subst (λ (m : Memory). Shows m c.args.code.now.first c.args.code.now.instructions) (sym memory) c.requires.shows)

pub returns-clause-pcs : goal.returns-clause-pcs
returns-clause-pcs c =
    let u = c.args.machine.now in
    let memory : c.pages-pages.result.now.memory ≡ record { bytes = u.bytes; code = u.code } =
    is_memory u c.pages-pages.result.now.memory c.pages-pages.ensures.bytes c.pages-pages.ensures.code in
    let quota = same_quota u.plan u.rounds c.args.number c.quota-quota.result (c.quota-quota.ensures.quota ∙ grind arith) in
    let part = walk_is u c.new-view.result c.pages-pages.result.now.memory c.quota-quota.result c.args.number c.args.hart c.new-view.ensures memory quota in
    IfOk-weaker c.add_pcs_in_part.result _ _
    (λ n is. is ∙ ap (λ (hs : List Hart). c.args.pcs.now.items ++ map (pc_in c.args.hart.done hs) (take n c.args.events.now)) part
    ∙ ap (λ (ps : List (Option ℕ)). c.args.pcs.now.items ++ ps) (all_of_part u c.args.events.now c.args.number c.args.hart n c.requires.hart c.requires.part)) c.add_pcs_in_part.ensures.pcs
