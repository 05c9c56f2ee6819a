-- Where a run stands, by what was found.
use Rattle.std.proofs.Common.{◌≡◌, ℕ, Option, Some, Result, ap, subst, ◌∙◌}
use Rattle.std.specs.Prelude.{IfOk}
use Rattle.std.proofs.lemmas.Result.{IfOk-weaker}
use Rattle.watching.specs.declared.watchpoint.Way.{Way}
use Rattle.watching.specs.declared.watchpoint.Way.TheVariants.{On, Back}
use Rattle.past_harts.specs.declared.point.Point.{Point}
use Rattle.round_steps.specs.declared.told.Told.{Told}
use Rattle.gdb_runs.specs.declared.session.Standing.{Standing}
use Rattle.gdb_runs.specs.Wanted.{Finds, all_told, only_of, watched_of}
use Rattle.gdb_steps.specs.Steps.{MovesAlone, MovesAloneBy, PassesOne, StepsBackBeside, StepsBy, StepsFrom, StepsOn, alone_at, later_of, no_step, own_from, sought_from}
use Rattle.gdb_runs.specs.Standings.{end_of, told_or}
use Rattle.gdb_runs.specs.Sessions.{Recorded, State}

module _ (r : Recorded) (s : State) (found : Option Told) where
  module _ (hart : ℕ) where
    pub steps_from : (at from : Point) (end : Standing) → from ≡ later_of s.standing.point at → end ≡ end_of r.rounds s.standing On →
        Finds r On (all_told s (Some hart)) from found →
        {E : Type 0} (res : Result Standing E) → IfOk res (λ t. t ≡ told_or r s end found) → IfOk res (λ t. StepsFrom r s hart at t)
    steps_from at from end here is finds res same =
        let F : Point → Type 0 = λ p. Finds r On (all_told s (Some hart)) p found in
        IfOk-weaker res (λ t. t ≡ told_or r s end found) (λ t. StepsFrom r s hart at t)
        (λ t e. record { found = found; finds = subst F here finds; is = e ∙ ap (λ (x : Standing). told_or r s x found) is }) same

    pub steps_on : (from : Point) → from ≡ sought_from On s.standing.point hart → Finds r On (all_told s (Some hart)) from found →
        {E : Type 0} (res : Result Standing E) → IfOk res (λ t. StepsBy r s hart found t) → IfOk res (λ t. StepsOn r s hart t)
    steps_on from here finds res by =
        let F : Point → Type 0 = λ p. Finds r On (all_told s (Some hart)) p found in
        IfOk-weaker res (λ t. StepsBy r s hart found t) (λ t. StepsOn r s hart t)
        (λ t b. record { found = found; finds = subst F here finds; by = b }) by

    pub steps_back : (from : Point) (otherwise : Standing) → from ≡ sought_from Back s.standing.point hart →
        otherwise ≡ no_step r.rounds s.standing Back hart → Finds r Back (all_told s (Some hart)) from found →
        {E : Type 0} (res : Result Standing E) → IfOk res (λ t. t ≡ told_or r s otherwise found) → IfOk res (λ t. StepsBackBeside r s hart t)
    steps_back from otherwise here is finds res same =
        let F : Point → Type 0 = λ p. Finds r Back (all_told s (Some hart)) p found in
        IfOk-weaker res (λ t. t ≡ told_or r s otherwise found) (λ t. StepsBackBeside r s hart t)
        (λ t e. record { found = found; finds = subst F here finds; is = e ∙ ap (λ (x : Standing). told_or r s x found) is }) same

    module _ (way : Way) where
      pub passes_one : (from : Point) → from ≡ sought_from way s.standing.point hart → Finds r way (only_of hart) from found →
          {E : Type 0} (res : Result Standing E) → IfOk res (λ t. MovesAloneBy r s way hart found t) → IfOk res (λ t. PassesOne r s way hart t)
      passes_one from here finds res by =
          let F : Point → Type 0 = λ p. Finds r way (only_of hart) p found in
          IfOk-weaker res (λ t. MovesAloneBy r s way hart found t) (λ t. PassesOne r s way hart t)
          (λ t b. record { found = found; finds = subst F here finds; by = b }) by

      pub moves_alone : (at from : Point) → from ≡ own_from way s.standing.point at → Finds r way (watched_of s hart) from found →
          {E : Type 0} (res : Result Standing E) → IfOk res (λ t. t ≡ alone_at r s way hart at found) → IfOk res (λ t. MovesAlone r s way hart at t)
      moves_alone at from here finds res same =
          let F : Point → Type 0 = λ p. Finds r way (watched_of s hart) p found in
          IfOk-weaker res (λ t. t ≡ alone_at r s way hart at found) (λ t. MovesAlone r s way hart at t)
          (λ t e. record { found = found; finds = subst F here finds; is = e }) same
