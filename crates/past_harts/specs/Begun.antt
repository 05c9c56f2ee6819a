-- What a round begins with.
use Rattle.std.specs.Prelude.{ℕ, List}
use Rattle.pages.specs.declared.access.Range.{Range}
use Rattle.round_planner.specs.Quotas.{quotas_of}
use Rattle.hart_step.specs.declared.hart.Hart.{Hart}
use Rattle.machine.specs.Machine.{Running}

-- its harts, memory, the code, and the harts' quotas
pub record Begun : Type 0 where
  pub harts : List Hart
  pub bytes : List ℕ
  pub code : List Range
  pub quotas : List ℕ

abbrev pub begun_of : Running → Begun
begun_of m = record { harts = m.state.harts; bytes = m.state.bytes; code = m.code; quotas = quotas_of m.plan m.state.rounds }
