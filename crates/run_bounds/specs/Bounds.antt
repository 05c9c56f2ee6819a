-- The bounds of a run are those that the checker of orders keeps.
use Rattle.rule_checker.specs.declared.annotated.KindBounds.{KindBounds}
use Rattle.rule_checker.specs.declared.carried.Carried.{Carried}
use Rattle.run_bounds.specs.declared.kinds.KindTimes.{KindTimes as RunKinds}
use Rattle.run_bounds.specs.declared.carried.CarriedTimes.{CarriedTimes as RunCarried}

abbrev pub kinds_of : RunKinds → KindBounds
kinds_of b = record {
  loads = b.loads;
  stores = b.stores;
  acquires = b.acquires;
  annotated = b.annotated;
  load_load = b.load_load;
  load_store = b.load_store;
  store_load = b.store_load;
  store_store = b.store_store;
}

abbrev pub carried_of : RunCarried → Carried
carried_of c = record { registers = c.registers; steered = c.steered; addressed = c.addressed }
