use Rattle.std.proofs.Common.{◌≡◌, rules}
use Rattle.std.proofs.lemmas.Fn.{always_returns_same}
use Rattle.std.proofs.lemmas.List.Sorted.{IsNonDecreasingBy-from_sort_by_key}
use Rattle.hunt_commands.specs.Merges.{first_plan}
use Rattle.hunt_commands.proofs.table_files.tables_in_order.Goals as goal

pub returns-clause-tables : goal.returns-clause-tables
returns-clause-tables g c =
    let done = c.in_ok-sort_by_key.ensures in
    record {
      named = c.in_ok-tables.tables.items;
      read = c.in_ok-tables.ensures.read;
      same = done.permutation;
      in_order = IsNonDecreasingBy-from_sort_by_key first_plan _ done.sorted (λ a r q k. search rules);
      stable = done.stable first_plan (always_returns_same _ (λ a r. r ≡ first_plan a.0.now) _ (λ a r q k. search rules));
    }
