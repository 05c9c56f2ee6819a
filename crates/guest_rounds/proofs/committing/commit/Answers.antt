use Rattle.guest_rounds.proofs.CommittedAtOnce.{all_writable, committed_at_once}
use Rattle.guest_rounds.proofs.committing.commit.Goals as goal

pub commit_on-requires-clause-writable : goal.commit_on-requires-clause-writable
commit_on-requires-clause-writable g c = λ lifetimes within. all_writable c.args.pages.now c.args.ends.now c.requires.fits c.requires.ready

pub returns-then-stores_lines-clause-committed : goal.returns-then-stores_lines-clause-committed
returns-then-stores_lines-clause-committed g c =
    let e = c.commit_on.ensures in
    committed_at_once c.args.ends.now c.args.pages.now c.commit_on.new.pages c.args.reservations.now c.commit_on.new.reservations
    (record { memory = e.memory; ready = e.ready; spare = e.spare; size = e.size; reservations = e.reservations })

pub commit-requires-clause-writable : goal.commit-requires-clause-writable
commit-requires-clause-writable g c = all_writable c.args.pages.now c.args.ends.now c.requires.fits c.requires.ready

pub returns-else-crew-gt1-clause-committed : goal.returns-else-crew-gt1-clause-committed
returns-else-crew-gt1-clause-committed g c =
    let e = c.commit.ensures in
    committed_at_once c.args.ends.now c.args.pages.now c.commit.new.pages c.args.reservations.now c.commit.new.reservations
    (record { memory = e.memory; ready = e.ready; spare = e.spare; size = e.size; reservations = e.reservations })
