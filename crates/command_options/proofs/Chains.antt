-- What a command is after one more argument, group of these, or subcommand.
use Rattle.std.proofs.Common.{◌≡◌, ◌≤◌, ◌-◌, ◌∙◌, ◌||◌, List, [], ◌∷◌, false, ap, ap₂, arith, drop, fold, get_or, length, map, take}
use Rattle.std.proofs.lemmas.List.{take_all}
use Rattle.clap.specs.Words.{AddsArg, AddsSubcommand, App, Rule, app_of, rule_of, with_rule, with_subcommand}
use Rattle.clap.specs.declared.builder.arg.Arg.{Arg}
use Rattle.clap.specs.declared.builder.command.Command.{Command}
use Rattle.clap.specs.declared.builder.command.Command.TheViews.{out-Command}

pub record Stands (command : Command) (app : App) : Type 0 where
  pub shape : app_of command ≡ app
  pub local : (out-Command command).has_globals ≡ false

pub one_argument : (old : Command) (arg : Arg) (new : Command) (rule : Rule) → (out-Command old).has_globals ≡ false → rule_of arg ≡ rule → arg.global ≡ false
    → AddsArg old arg new → Stands new (with_rule (app_of old) rule)
one_argument old arg new rule before is local added = record {
  shape = added.shape local ∙ ap (with_rule (app_of old)) is;
  local = added.globals ∙ ap₂ (λ a b. a || b) before local;
}

pub one_subcommand : (old sub new : Command) (below : App) → (out-Command old).has_globals ≡ false → app_of sub ≡ below → (out-Command sub).has_globals ≡ false
    → AddsSubcommand old sub new → Stands new (with_subcommand (app_of old) below.top)
one_subcommand old sub new below before is local added = record {
  shape = added.shape local ∙ ap (λ (a : App). with_subcommand (app_of old) a.top) is;
  local = added.globals ∙ ap₂ (λ a b. a || b) before local;
}

-- with these the command is the one that all make of the first
pub record Grows {X : Type 0} (step : App → X → App) (first : App) (command : Command) (all rest : List X) : Type 0 where
  pub app : fold step (app_of command) rest ≡ fold step first all
  pub local : (out-Command command).has_globals ≡ false

pub grows : {X Y : Type 0} (view : X → Y) (step : App → Y → App) (first : App) (old new : Command) (all : List Y) (rest : List X) (none : X) → 1 ≤ length rest
    → Grows step first old all (map view rest) → Stands new (step (app_of old) (view (get_or rest 0 none)))
    → Grows step first new all (map view (take (length rest - 1) (drop 1 rest)))
grows view step first old new all [] none some before stands = absurd (omega arith)
grows view step first old new all (x ∷ rest) none some before stands =
    let left : take (length (x ∷ rest) - 1) rest ≡ rest = take_all (length (x ∷ rest) - 1) rest (omega arith) in
    record {
      app = ap (λ r. fold step (app_of new) (map view r)) left ∙ (ap (λ a. fold step a (map view rest)) stands.shape ∙ before.app);
      local = stands.local;
    }
