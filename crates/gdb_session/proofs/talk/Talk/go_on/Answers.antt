use Rattle.std.proofs.Common.{◌≡◌, Option, Some, ap, refl, subst, sym, ◌∙◌}
use Rattle.gdb_resumes.specs.declared.searching.Search.{Search}
use Rattle.gdb_resumes.specs.declared.searching.Searched.{Searched}
use Rattle.gdb_resumes.specs.Resumes.{SearchesTo}
use Rattle.gdb_runs.specs.Sessions.{Recorded, recorded_of, state_of}
use Rattle.gdb_runs.proofs.Runs.{of_same}
use Rattle.gdb_talk.specs.Saying.{refused_text, response_text}
use Rattle.gdb_session.specs.Serving.{RepliesOrGoesOn, StandsOrLost, request_for}
use Rattle.gdb_session.specs.declared.talk.Talk.{Talk}
use Rattle.gdb_session.proofs.Resuming.{ended, further, lost}
use Rattle.gdb_session.proofs.talk.Talk.go_on.Goals as goal

pub returns-in-Ok-Stands-clause-goes : goal.returns-in-Ok-Stands-clause-goes
returns-in-Ok-Stands-clause-goes g c = λ m is.
    let d = c.args.run.now in
    let r = recorded_of m d in
    let s = state_of c.args.self.now.session in
    let way = c.args.search.reach.way in
    let t = c.in-Ok-Stands.standing in
    let said = response_text c.stand.result in
    let u = state_of c.stand.new.self.session in
    let T : Searched → Type 0 = λ x. SearchesTo r s way x in
    let P : Recorded → Type 0 = λ q. StandsOrLost q s t said u in
    let R : Option Search → Type 0 = λ o. RepliesOrGoesOn r s (request_for way) said u o in
    let same = c.stand.ensures.same in (
      subst R (sym (ap (λ (x : Talk). x.searching) same))
          (ended r s way t said u (subst T c.in-Ok-Stands.field-0-is (c.in-Ok-Stands.ensures.searches m is))
          (of_same d c.go_on.new.run P c.in-Ok-Stands.ensures.stays c.stand.ensures.stands m is)),
      ap (λ (x : Talk). x.last) same ∙ ap Some c.request_for.ensures,
    )

pub returns-in-Ok-GoesOn-clause-goes : goal.returns-in-Ok-GoesOn-clause-goes
returns-in-Ok-GoesOn-clause-goes g c = λ m is.
    let r = recorded_of m c.args.run.now in
    let s = state_of c.args.self.now.session in
    let way = c.args.search.reach.way in
    let T : Searched → Type 0 = λ x. SearchesTo r s way x in
    let come = subst T c.in-Ok-GoesOn.field-0-is (c.in-Ok-GoesOn.ensures.searches m is) in
    (further r s way c.in-Ok-GoesOn.further come.0 come.1, ap Some c.request_for.ensures)

pub returns-in-Err-clause-goes : goal.returns-in-Err-clause-goes
returns-in-Err-clause-goes g c = λ m is.
    let s = state_of c.args.self.now.session in
    (lost (recorded_of m c.args.run.now) s c.args.search.reach.way refused_text s refl refl, ap Some c.request_for.ensures)
