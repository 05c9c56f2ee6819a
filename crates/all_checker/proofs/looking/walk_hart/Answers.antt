use Rattle.std.proofs.Common.{List, sym, ap}
use Rattle.all_endings.specs.Endings.{opening_bytes}
use Rattle.all_endings.specs.Tables.{memory_of}
use Rattle.hart_states.specs.declared.listed_store.ListedStore.{ListedStore}
use Rattle.hart_states.specs.States.{listed}
use Rattle.ending_nodes.specs.KeptNodes.{node_told}
use Rattle.all_checker.proofs.looking.walk_hart.Goals as goal

pub returns : goal.returns
returns c =
    let image = c.args.program.now.pages.now.memory in
    c.in_ok-walk.ensures (node_told image c.args.node.now) (ap listed (sym c.deref-2.ensures.value))
    (ap (λ (b : List ListedStore). memory_of (listed b) (opening_bytes image)) (sym c.deref.ensures.value)) (sym c.places_of.ensures)
