use Rattle.std.proofs.Common.{arith}
use Rattle.std.proofs.lemmas.List.{length-map}
use Rattle.hart_states.specs.States.{listed, own_of, stored_of}
use Rattle.late_spots.proofs.OwnStores.{here_listed}
use Rattle.late_spots.proofs.own_stores.is_listed.Goals as goal

pub returns-in-Some : goal.returns-in-Some
returns-in-Some c = λ held.
    let many = length-map c.args.list.now stored_of in
    here_listed (listed c.args.list.now) c.args.address (own_of c.args.own.now) (stored_of c.in-Some.store) (omega arith) (omega (arith, many)) c.in-Some.ensures (c.is_kept.ensures.writes held)
    (c.is_kept.ensures.wrote held)
