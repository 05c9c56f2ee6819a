use Rattle.std.proofs.Common.{◌≡◌, ◌∙◌, Some, None, sym, ap, subst}
use Rattle.all_endings.specs.StoreLists.{Stored}
use Rattle.hart_states.specs.declared.listed_store.ListedStore.{ListedStore}
use Rattle.hart_states.specs.States.{stored_of}
use Rattle.private_bytes.specs.PrivateWalks.{StandsForApart, spot_with}
use Rattle.run_places.specs.Spots.{spot_of}
use Rattle.run_places.proofs.Standing.{came, grows_by}
use Rattle.run_places.proofs.reaching.add_chosen.Goals as goal

same_store : (s t : ListedStore) → Some s ≡ Some t → s ≡ t
same_store s t e = cc

none_is : (t : ListedStore) → None ≡ Some t → ⊥
none_is t e = cc

pub returns-in-None-clause-covered : goal.returns-in-None-clause-covered
returns-in-None-clause-covered c = λ m t chosen. absurd (none_is t (sym c.in-None.is ∙ chosen))

pub returns-clause-grows : goal.returns-clause-grows
returns-clause-grows c = grows_by c.args.behind.now.items c.push.new.self.items c.in_ok-with.with c.in_ok-push.ensures.items

pub returns-clause-covered : goal.returns-clause-covered
returns-clause-covered c = λ m t chosen.
    let with = c.in_ok-with.with in
    let same : c.in-Some.store ≡ t = same_store c.in-Some.store t (sym c.in-Some.is ∙ chosen) in (
      spot_of with,
      came c.args.behind.now.items c.push.new.self.items with c.in_ok-push.ensures.items,
      subst (λ (s : Stored). StandsForApart m (spot_of with) (spot_with (spot_of c.args.reached.now) s)) (ap stored_of same) (c.in_ok-with.ensures m),
    )
