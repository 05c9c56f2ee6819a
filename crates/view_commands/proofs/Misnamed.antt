-- Where nothing refuses a run, the bytes that the line names are what is wrong.
use Rattle.std.proofs.Common.{◌≡◌, Err, IfOk, List, None, Ok, Option, Result, Some, refl, ⊎_elim, ℕ}
use Rattle.command_line.specs.declared.settings.Draw.{Draw}
use Rattle.host_io.specs.declared.error.RunError.{RunError}
use Rattle.round_planner.specs.Settings.{IsPlan, RefusedInOrder, settings_fault}
use Rattle.round_planner.specs.declared.settings.Settings.{Settings}
use Rattle.program_files.specs.declared.fault.NamingFault.{NamingFault}
use Rattle.program_files.specs.Asked.{HasSettings}
use Rattle.round_planner.specs.Quotas.{Planned}
use Rattle.view_commands.specs.Drawings.{IsMisnamed}
use Rattle.view_commands.specs.Views.{IsNamed}

apart : {X : Type 0} (x : X) (e : RunError) → ◌≡◌ {A = Result X RunError} (Ok x) (Err e) → ⊥
apart x e q = cc

none_of : (o : Option RunError) → ((e : RunError) → o ≡ Some e → ⊥) → o ≡ None
none_of None h = refl
none_of (Some e) h = absurd (h e refl)

pub misnamed_so : {X : Type 0} (Q : X → Planned → Type 0) (asked : Draw) (image text : List ℕ) (budget : ℕ) (s : Settings) (fault : NamingFault) (r : Result X RunError) →
    HasSettings asked.run.program text budget s → IfOk r (λ x. (plan : Planned) × IsPlan s plan × Q x plan) → RefusedInOrder s image r →
    IsNamed asked image asked.run.program.pages (Some fault) → IfOk r (λ _. IsMisnamed asked image text budget fault)
misnamed_so Q asked image text budget s fault (Ok x) set planned order named =
    let fine : settings_fault s ≡ None = none_of (settings_fault s) (λ e q. apart x e (order.settings e q)) in
    record {
      run = record { settings = s; plan = planned.0; set = set; planned = planned.1 };
      in_range = fine;
      sound = λ cause i. ⊎_elim (λ q. apart x _ q) (λ q. apart x _ q) (order.image cause fine i);
      named = named;
    }
misnamed_so Q asked image text budget s fault (Err e) set planned order named = tt
