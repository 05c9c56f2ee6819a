use Rattle.std.proofs.Common.{List, map, ◌∙◌, ap}
use Rattle.pages.specs.declared.access.Range.{Range}
use Rattle.all_endings.specs.Endings.{bytes_from, opening_bytes}
use Rattle.all_endings.specs.Tables.{memory_of}
use Rattle.hart_states.specs.declared.listed_store.ListedStore.{ListedStore}
use Rattle.hart_states.specs.States.{listed}
use Rattle.all_checker.proofs.memory.seen_at.Goals as goal

pub returns : goal.returns
returns c =
    let image = c.args.pages.now.memory in
    let see = c.args.see.now in
    c.in_ok-seen.ensures
    ∙ (ap (λ (l : List ListedStore). map (λ (r : Range). bytes_from (memory_of (listed l) (memory_of (listed c.deref.result.now) (opening_bytes image))) r.start r.len) see) c.deref-2.ensures.value
    ∙ ap (λ (b : List ListedStore). map (λ (r : Range). bytes_from (memory_of (listed c.args.node.now.list.items) (memory_of (listed b) (opening_bytes image))) r.start r.len) see) c.deref.ensures.value)
