-- What `==` says of lists of stores.
use Rattle.std.proofs.Common.{◌≡◌, Bool, List, rules}
use Rattle.std.specs.Bool.{Decides}
use Rattle.std.proofs.lemmas.Slice.Eq.{slice_eq-Decides}
use Rattle.hart_states.specs.declared.listed_store.ListedStore.{ListedStore}
use Rattle.hart_states.specs.contracts.listed_store.ListedStorePartialEq.TheImpl.{eq-value}
use lib.Pointwise.{pointwise}

same_store : (a b : ListedStore) → Decides (eq-value.it a b) (a ≡ b)
same_store a b = search rules

pub same_stores : (a b : List ListedStore) (r : Bool) → r ≡ pointwise eq-value.it a b → Decides r (a ≡ b)
same_stores a b r e = slice_eq-Decides same_store a b r e
