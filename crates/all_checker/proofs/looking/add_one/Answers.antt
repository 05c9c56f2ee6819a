use Rattle.std.proofs.Common.{[], ◌∷◌, refl}
use Rattle.hart_ends.proofs.Told.{new}
use Rattle.ending_nodes.specs.KeptNodes.{node_told}
use Rattle.all_checker.proofs.looking.add_one.Goals as goal

pub returns-clause-grow : goal.returns-clause-grow
returns-clause-grow c = record { more = c.in_ok-one.one ∷ []; behind = c.in_ok-push.ensures.items }

pub returns-clause-added : goal.returns-clause-added
returns-clause-added c = λ hs many fresh.
    let image = c.args.program.now.pages.now.memory in
    let told = node_told image in
    let one = c.in_ok-one.one in
    (told one, new told c.args.next.now.items c.push.new.self.items one (told one) c.in_ok-push.ensures.items refl, c.in_ok-one.ensures hs many fresh)
