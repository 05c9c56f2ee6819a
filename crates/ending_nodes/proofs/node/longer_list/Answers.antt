use Rattle.std.proofs.Common.{◌∷◌, ◌++◌, [], List, ◌∙◌, ap}
use Rattle.hart_ends.proofs.Told.{pushed}
use Rattle.hart_states.specs.declared.listed_store.ListedStore.{ListedStore}
use Rattle.hart_states.specs.States.{stored_of}
use Rattle.ending_nodes.proofs.node.longer_list.Goals as goal

pub returns : goal.returns
returns c =
    pushed stored_of c.args.node.now.list.items c.push.new.self.items c.args.store
    (c.in_ok-push.ensures.items ∙ ap (λ (l : List ListedStore). l ++ c.args.store ∷ []) (c.in_ok-list.ensures.items ∙ c.deref.ensures.value))
