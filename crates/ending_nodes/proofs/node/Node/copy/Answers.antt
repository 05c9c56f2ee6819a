use Rattle.std.proofs.Common.{List, ◌∙◌, ap}
use Rattle.std.specs.Global.{Vec}
use Rattle.run_places.specs.declared.place.Place.{Place}
use Rattle.ending_nodes.specs.declared.node.Node.{Node}
use Rattle.ending_nodes.specs.KeptNodes.{spots_told}
use Rattle.ending_nodes.proofs.KeptNodes.{told_same}
use Rattle.ending_nodes.proofs.node.Node.copy.Goals as goal

pub returns : goal.returns
returns c = λ image.
    let t : Node = record { behind = c.in_ok-from_slice.field-0; list = c.in_ok-from_slice-2.field-0; places = c.in_ok-copied_places.field-0 } in
    told_same image c.args.self.now t (c.in_ok-from_slice.ensures.items ∙ c.deref.ensures.value) (c.in_ok-from_slice-2.ensures.items ∙ c.deref-2.ensures.value)
    (c.in_ok-copied_places.ensures ∙ ap (λ (ps : List (Vec Place)). spots_told ps) c.deref-3.ensures.value)
