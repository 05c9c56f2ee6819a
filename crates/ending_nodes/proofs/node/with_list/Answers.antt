use Rattle.std.proofs.Common.{List, refl, ◌∙◌, ap}
use Rattle.std.specs.Global.{Vec}
use Rattle.run_places.specs.declared.place.Place.{Place}
use Rattle.ending_nodes.specs.declared.node.Node.{Node}
use Rattle.ending_nodes.specs.KeptNodes.{spots_told}
use Rattle.ending_nodes.proofs.KeptNodes.{told_over}
use Rattle.ending_nodes.proofs.node.with_list.Goals as goal

pub returns : goal.returns
returns c = λ image.
    let t : Node = record { behind = c.in_ok-from_slice.field-0; list = c.args.list; places = c.in_ok-copied_places.field-0 } in
    told_over image c.args.node.now t c.args.list.items (c.in_ok-from_slice.ensures.items ∙ c.deref.ensures.value) refl
    (c.in_ok-copied_places.ensures ∙ ap (λ (ps : List (Vec Place)). spots_told ps) c.deref-2.ensures.value)
