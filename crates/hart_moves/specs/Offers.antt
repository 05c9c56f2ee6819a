-- The store that is offered.
use Rattle.std.specs.Prelude.{◌≡◌, Option, Some}
use Rattle.all_endings.specs.StoreLists.{Stored}
use Rattle.hart_states.specs.declared.listed_store.ListedStore.{ListedStore}
use Rattle.hart_states.specs.States.{stored_of}

-- what is found is this store
abbrev pub IsOffer : Option ListedStore → Stored → Type 0
IsOffer found s = (t : ListedStore) × (found ≡ Some t) × (stored_of t ≡ s)
