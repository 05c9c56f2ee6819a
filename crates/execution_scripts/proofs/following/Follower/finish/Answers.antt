use Rattle.std.proofs.Common.{◌<◌, ◌≡◌, ℕ, ap, arith, length, map, refl, slice_get, slice_index, subst, sym, ◌∙◌, Some, None, List}
use Rattle.std.proofs.lemmas.Option.{slice_get_within}
use Rattle.std.proofs.lemmas.Result.{err_from_is_err_and}
use Rattle.execution_file.specs.Recorded.{HartDeeds}
use Rattle.execution_file.specs.Deeds.{numbers_of}
use Rattle.execution_file.specs.Views.{hart_view}
use Rattle.execution_scripts.specs.Following.{done_by, line_of, runs-none}
use Rattle.execution_scripts.specs.Misfits.{IsEndMisfit, IsFaultAfter, IsFaultAt}
use Rattle.execution_scripts.specs.Courses.{AreWithin, Course, IsOn}
use Rattle.execution_scripts.specs.declared.fault.Fault.{Fault}
use Rattle.execution_scripts.specs.declared.fault.Misfit.TheVariants.{NumbersLeft, RunsOnWithValue}
use Rattle.execution_scripts.proofs.Going.{at, on_fault}
use Rattle.execution_scripts.proofs.Loops.{on_fault_by}
use Rattle.execution_scripts.proofs.Reading.{how_many, read_all}
use Rattle.execution_scripts.proofs.following.Follower.finish.Goals as goal

pub returns-then-has_stray_value-clause-misfit : goal.returns-then-has_stray_value-clause-misfit
returns-then-has_stray_value-clause-misfit c =
    let h = c.args.hart in
    let part = c.args.part.now in
    let f = c.args.self.now in
    let stray = c.has_stray_value.ensures.yes c.if-has_stray_value.true in
    on_fault c.fault_at.result (record { hart = h; step = c.done.result; misfit = RunsOnWithValue })
    (λ (x : Fault). (k : Course) (n : ℕ) → IsOn k n f → AreWithin k.lines (at f) → h < length k.lines → hart_view part ≡ line_of k.lines h →
    (j : ℕ) × IsFaultAfter IsEndMisfit k.image (line_of k.lines h) n h j (at f) x) c.fault_at.ensures
    (λ k n o w l line. (
      0,
      record {
        place = at f;
        runs = runs-none (at f);
        fault = record {
          hart = refl;
          step = c.done.ensures;
          why = subst (λ (y : HartDeeds). IsEndMisfit RunsOnWithValue k.image y n h (at f)) line stray;
        };
      },
    ))

pub returns-in_err-run_on-clause-misfit : goal.returns-in_err-run_on-clause-misfit
returns-in_err-run_on-clause-misfit c =
    let p = err_from_is_err_and c.from_residual.result c.from_residual.ensures.1 in
    rw (p.1, p.2)
    (on_fault_by _
    (λ (x : Fault). (k : Course) (n : ℕ) → IsOn k n c.args.self.now → AreWithin k.lines (at c.args.self.now) →
    (j : ℕ) × IsFaultAfter IsEndMisfit k.image (line_of k.lines c.args.hart) n c.args.hart j (at c.args.self.now) x)
    _ c.in_err-run_on.ensures.misfit (λ x u k n o w l line. u k n o w))

pub returns-in_err-end-clause-misfit : goal.returns-in_err-end-clause-misfit
returns-in_err-end-clause-misfit c =
    let p = err_from_is_err_and c.from_residual-in_err-end.result c.from_residual-in_err-end.ensures.1 in
    rw (p.1, p.2)
    (on_fault_by _
    (λ (x : Fault). (k : Course) (n : ℕ) → IsOn k n c.run_on.new.self → c.args.hart < length k.lines → hart_view c.args.part.now ≡ line_of k.lines c.args.hart →
    done_by (at c.run_on.new.self) c.args.hart ≡ c.args.part.now.steps → IsFaultAt IsEndMisfit k.image (line_of k.lines c.args.hart) n c.args.hart (at c.run_on.new.self) x)
    _ c.in_err-end.ensures.misfit (λ x u k n o w l line.
    let r = c.in_ok-run_on.ensures.ran k n o w in (
      r.2.calls,
      record {
        place = at c.run_on.new.self;
        runs = r.2.runs;
        fault = u k n r.0 l line (r.2.all ∙ sym (ap (λ (y : HartDeeds). y.steps) line));
      },
    )))

pub returns-in-Some-clause-misfit : goal.returns-in-Some-clause-misfit
returns-in-Some-clause-misfit c =
    let h = c.args.hart in
    let part = c.args.part.now in
    let f = c.args.self.now in
    on_fault c.fault_at-in-Some.result (record { hart = h; step = c.done-done.result; misfit = NumbersLeft })
    (λ (x : Fault). (k : Course) (n : ℕ) → IsOn k n f → AreWithin k.lines (at f) → h < length k.lines → hart_view part ≡ line_of k.lines h →
    (j : ℕ) × IsFaultAfter IsEndMisfit k.image (line_of k.lines h) n h j (at f) x) c.fault_at-in-Some.ensures
    (λ k n o w l line.
    let r = c.in_ok-run_on.ensures.ran k n o w in
    let e = c.in_ok-end.ensures.ended k n r.0 r.1 l line (c.has_stray_value.ensures.no_value c.if-has_stray_value.false) in
    let used = slice_index c.end.new.self.used.items h in
    let next : slice_get (line_of k.lines h).reads used ≡ Some c.in-Some.field-0 =
    ap (λ (ls : List HartDeeds). slice_get (line_of ls h).reads used) (sym e.0.lines) ∙ sym c.said.ensures ∙ c.in-Some.is in
    let count : length (numbers_of h (at c.end.new.self).events) ≡ used = how_many (line_of k.lines h) _ used (e.0.reads h l) in
    let few : used < length (line_of k.lines h).reads = slice_get_within (line_of k.lines h).reads used c.in-Some.field-0 next in (
      r.2.calls,
      record {
        place = at c.run_on.new.self;
        runs = r.2.runs;
        fault = record {
          hart = refl;
          step = c.done-done.ensures;
          why = record { all = r.2.all; end = at c.end.new.self; ends = e.2; fewer = omega (arith, count, few) };
        };
      },
    ))

pub returns-in-None-clause-ended : goal.returns-in-None-clause-ended
returns-in-None-clause-ended c = λ k n o w l line.
    let h = c.args.hart in
    let r = c.in_ok-run_on.ensures.ran k n o w in
    let e = c.in_ok-end.ensures.ended k n r.0 r.1 l line (c.has_stray_value.ensures.no_value c.if-has_stray_value.false) in
    let used = slice_index c.end.new.self.used.items h in (
      e.0,
      e.1,
      record {
        before = at c.run_on.new.self;
        calls = r.2.calls;
        runs = r.2.runs;
        all = r.2.all;
        end = e.2;
        numbers = sym (read_all (line_of k.lines h) _ used (e.0.reads h l)
            (ap (λ (ls : List HartDeeds). slice_get (line_of ls h).reads used) (sym e.0.lines) ∙ sym c.said.ensures ∙ c.in-None.is));
      },
    )
