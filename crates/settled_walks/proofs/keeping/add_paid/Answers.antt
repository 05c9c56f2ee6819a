use Rattle.std.proofs.Common.{◌≡◌, ℕ, true, List, sym, subst}
use Rattle.run_places.specs.Spots.{is_among}
use Rattle.settled_walks.proofs.Counted.{among_new, kept_at, stays_there}
use Rattle.settled_walks.proofs.keeping.add_paid.Goals as goal

pub returns-then-not-stays_at-clause-there : goal.returns-then-not-stays_at-clause-there
returns-then-not-stays_at-clause-there c = λ j e. absurd (let s = stays_there c.args.stays.now c.args.store j e in cc)

pub returns-clause-there : goal.returns-clause-there
returns-clause-there c = λ j e.
    subst (λ (l : List ℕ). is_among l j ≡ true) (sym c.in_ok-push.ensures.items)
    (among_new c.args.kept.now.items c.kept_before.result j (kept_at c.args.stays.now c.kept_before.result c.args.store j c.kept_before.ensures e))
