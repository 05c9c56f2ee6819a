use Rattle.std.proofs.Common.{ℕ, List, map, ap, ◌∙◌, sym, arith}
use Rattle.std.proofs.lemmas.List.{length-map}
use Rattle.execution_file.specs.Views.{hart_view}
use Rattle.execution_file.proofs.Doing.{number_added, with_later, with_none}
use Rattle.execution_file.proofs.parts.add_number.Goals as goal

pub returns-in_ok-push : goal.returns-in_ok-push
returns-in_ok-push c =
    number_added c.args.parts.now.items c.args.event.now c.from.result c.in-Some.number c.in-Some-get_mut.part.now _
    (sym c.number_shown.ensures ∙ c.in-Some.is) (sym c.from.ensures) c.in-Some-get_mut.ensures.item.3.0 c.in-Some-get_mut.ensures.value
    (ap (λ (ns : List ℕ). record (hart_view c.in-Some-get_mut.part.now) { reads = ns }) c.in_ok-push.ensures.items)

pub returns-in_default-get_mut : goal.returns-in_default-get_mut
returns-in_default-get_mut c =
    sym (with_later 0 (map hart_view c.args.parts.now.items) c.args.event.now
    (omega (arith, length-map c.args.parts.now.items hart_view, c.in_default-get_mut.ensures.item.3, c.from.ensures)))

pub returns-in_default : goal.returns-in_default
returns-in_default c = sym (with_none 0 (map hart_view c.args.parts.now.items) c.args.event.now (sym c.number_shown.ensures ∙ c.in_default.is))
