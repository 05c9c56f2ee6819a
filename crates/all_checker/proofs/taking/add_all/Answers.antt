use Rattle.std.proofs.Common.{◌≡◌, ◌∷◌, [], All, List, get_or, length, sym, ap, subst, ◌∙◌, append_assoc, append-nil, arith}
use Rattle.std.proofs.lemmas.List.Elements.{All-push}
use Rattle.std.specs.Vec.Iter.{into_iter_items}
use Rattle.ending_nodes.proofs.KeptNodes.{nodes_on}
use Rattle.ending_nodes.specs.KeptNodes.{HaveOneFor}
use Rattle.ending_nodes.specs.declared.node.Node.{Node as KeptNode}
use Rattle.all_checker.proofs.Taken.{nothing_left, one_stays}
use Rattle.all_checker.proofs.taking.add_all.Goals as goal

pub loop-node-preserved : goal.loop-node-preserved
loop-node-preserved c =
    let at = c.loop-node in
    let i = at.invariant in
    let x = c.in-Some.node in
    let old = at.nodes.all.items in
    let new = c.add.new.self.all.items in
    let added = c.in_ok-add.ensures in
    let steps : into_iter_items at.node-iterator ≡ x ∷ into_iter_items c.next.new.self = c.in-Some.ensures.steps.0 in
    record {
      all = append_assoc at.yielded (x ∷ []) _ ∙ rw (← steps) i.all;
      left = (let was = i.left in let gone = c.in-Some.ensures.steps.1 in let short = ap length steps in omega arith);
      grow = nodes_on _ old new i.grow added.grow;
      have = All-push (HaveOneFor new) at.yielded x (λ k d l. one_stays old new (get_or at.yielded k d) added.grow (i.have k d l)) added.have;
    }

pub returns-clause-have : goal.returns-clause-have
returns-clause-have c =
    let at = c.loop-node in
    let none = c.in-None.ensures.steps in
    let empty : into_iter_items at.node-iterator ≡ [] = nothing_left _ (sym at.invariant.left ∙ none.0) in
    let all = sym (append-nil at.yielded) ∙ rw empty at at.invariant.all ∙ c.into_iter-node-iterator.ensures.into_iter_gives.0 in
    subst (λ (ns : List KeptNode). All (HaveOneFor at.nodes.all.items) ns) all at.invariant.have
