use Rattle.std.proofs.Common.{List, refl, ◌∙◌, ap}
use Rattle.all_endings.specs.StoreLists.{Stored}
use Rattle.all_endings.specs.Tables.{memory_of}
use Rattle.hart_states.specs.declared.listed_store.ListedStore.{ListedStore}
use Rattle.hart_states.specs.States.{listed}
use Rattle.list_suffixes.specs.Staying.{laid}
use Rattle.ending_nodes.proofs.raising.with_laid.Goals as goal

pub returns : goal.returns
returns c = record {
  stores = c.in_ok-kept_stores.ensures;
  memory = λ opening x.
      c.in_ok-laid_together.ensures opening x
      ∙ (ap (λ (l : List ListedStore). memory_of (listed l) (memory_of (listed c.deref.result.now) opening) x) c.deref-2.ensures.value
      ∙ (ap (λ (m : List Stored). memory_of m (memory_of (listed c.deref.result.now) opening) x) c.in_ok-laid.ensures
      ∙ ap (λ (b : List ListedStore). memory_of (laid c.args.stays.now (listed c.args.list.now)) (memory_of (listed b) opening) x) c.deref.ensures.value));
  places = refl;
}
