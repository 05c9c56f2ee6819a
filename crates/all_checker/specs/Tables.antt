-- What a table of all endings says.
use Rattle.std.specs.Prelude.{◌≡◌, ℕ, ◌≤◌, ◌<◌, Bool, List, [], length, slice_index_or, Contains}
use Rattle.pages.specs.declared.access.Range.{Range}
use Rattle.pages.specs.Memory.{Memory}
use Rattle.hart_step.specs.declared.hart.Hart.{Hart}
use Rattle.hart_step.specs.Console.{ConsoleState}
use Rattle.all_endings.specs.Endings.{AllEndingsWithin}
use Rattle.ending_nodes.specs.declared.node.Node.{Node as KeptNode}
use Rattle.ending_nodes.specs.KeptNodes.{node_told, nodes_told}
use Rattle.hart_ends.specs.Told.{table_told}
use Rattle.list_suffixes.specs.NodeWalks.{IsLookedThroughFrom}
use Rattle.list_suffixes.specs.Serving.{IsServed, Node}
use Rattle.all_checker.specs.declared.finding.Found.{Found}
use Rattle.all_checker.specs.declared.finding.Found.TheVariants.{All, Unknown}
use Rattle.all_checker.specs.declared.taking.LookedNodes.{LookedNodes}

-- a table has the ending of each execution of at most k instructions a hart that RVWMO allows, and that begins with a console that holds no
-- output
abbrev pub IsFoundOf : ℕ → Memory → List Hart → List Range → Found → Type 0
IsFoundOf k image hs see (All table) = (c : ConsoleState) → c.output ≡ [] → AllEndingsWithin k image hs c see (table_told table.items)
IsFoundOf k image hs see (Unknown why) = Unit {0}

-- one of some nodes serves the empty list
abbrev pub HaveFirst : (ℕ → ℕ → Bool) → ℕ → Memory → List Hart → List KeptNode → Type 0
HaveFirst owns k image hs ns = (n : Node) × Contains (nodes_told image ns) n × IsServed owns k image hs n []

-- of some nodes, of which one serves the empty list, the first ones are looked through
pub record AreTaken (owns : ℕ → ℕ → Bool) (k : ℕ) (image : Memory) (hs : List Hart) (see : List Range) (t : LookedNodes) : Type 0 where
  pub first : HaveFirst owns k image hs t.nodes.all.items
  pub within : t.done ≤ length t.nodes.all.items
  pub looked : (j : ℕ) (d : KeptNode) → j < t.done →
      IsLookedThroughFrom owns k image hs see (nodes_told image t.nodes.all.items) (table_told t.table.items) (node_told image (slice_index_or t.nodes.all.items j d))
