use Rattle.std.proofs.Common.{◌≡◌, ℕ, MatchOption, None, Option, arith, length, refl, subst, sym, ◌∙◌}
use Rattle.trace.specs.Traced.{opening_at}
use Rattle.execution_checker.specs.Allowed.{Allows, IsVerdict}
use Rattle.execution_checker.specs.declared.verdict.Verdict.{Verdict}
use Rattle.execution_checker.specs.declared.verdict.Verdict.TheVariants.{Allowed}
use Rattle.execution_file.specs.Views.{as_recorded, hart_view}
use Rattle.execution_scripts.specs.Findings.{guest_in, start_of}
use Rattle.execution_scripts.specs.declared.checking.Finding.{Finding}
use Rattle.execution_scripts.specs.declared.checking.Finding.TheVariants.{Judged}
use Rattle.std.proofs.lemmas.List.{length-map}
use Rattle.execution_moments.proofs.Rising.{at_some}
use Rattle.execution_session.proofs.opening.open_allowed.Goals as goal

at_none : {X : Type 0} (o : Option X) (A : Type 0) (B : X → Type 0) → o ≡ None → MatchOption o A B → A
at_none o A B e h = subst (λ x. MatchOption x A B) e h

pub returns-in-None : goal.returns-in-None
returns-in-None c =
    let g = guest_in (as_recorded c.args.file.now) in
    let checked = c.args.checked in
    let followed = c.in_ok-followed.followed in
    let q = followed.execution.standing in
    record {
      against = at_none followed.course _ _ c.in-None.is c.in_ok-followed.ensures.course;
      verdict = λ w e.
          subst (λ (o : ℕ → ℕ). IsVerdict w g.shared.memory o checked.script.items checked.order.0.items (start_of g) q) (λ i. λ x. c.requires x i) (c.in_ok-followed.ensures.verdict w e);
    }

pub returns-in-Some : goal.returns-in-Some
returns-in-Some c =
    let f = c.args.file.now in
    let g = guest_in (as_recorded f) in
    let checked = c.args.checked in
    let followed = c.in_ok-followed.followed in
    let q = followed.execution.standing in
    let both = at_some followed.course _ _ c.in-Some.course c.in-Some.is c.in_ok-followed.ensures.course in
    let judged = c.in_ok-followed.ensures.verdict Allowed both.0 in
    let A : (ℕ → ℕ) → Type 0 = λ o. Allows o q checked.order.0.items in
    let count : c.len.result ≡ length f.harts.items = omega (arith, c.len.ensures, f.harts.ok.0) in
    record {
      past = record {
        allowed = subst A (λ i. λ x. c.requires x i) judged.1;
        course = both.1;
        opening = c.requires;
      };
      as_said = c.in_ok-followed.ensures.as_said Allowed both.0;
      harts = count ∙ sym (length-map f.harts.items hart_view);
      size = refl;
    }
