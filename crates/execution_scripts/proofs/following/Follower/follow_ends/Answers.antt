use Rattle.std.proofs.Common.{◌<◌, ◌≡◌, ℕ, List, arith, length, subst, sym, ◌∙◌}
use Rattle.std.proofs.lemmas.Result.{err_from_is_err_and}
use Rattle.execution_file.specs.Views.{hart_view}
use Rattle.execution_scripts.specs.Following.{Ends, HaveEnded, line_of}
use Rattle.execution_scripts.specs.Misfits.{IsEndMisfit, IsFaultAfter}
use Rattle.execution_scripts.specs.Courses.{AreWithin, Course, IsOn}
use Rattle.execution_scripts.specs.declared.fault.Fault.{Fault}
use Rattle.execution_scripts.proofs.Going.{at}
use Rattle.execution_scripts.proofs.Loops.{ends_more, ends_none, on_fault_by, part_line, parts_count, same_number}
use Rattle.execution_scripts.proofs.following.Follower.follow_ends.Goals as goal

pub loop-part-init : goal.loop-part-init
loop-part-init c = record { counts = omega arith; done = λ k n o w. ends_none k n c.args.self.now o w }

pub loop-part-preserved : goal.loop-part-preserved
loop-part-preserved c =
    let i = c.loop-part.part-index in
    let h = c.loop-part.hart in
    let f = c.args.self.now in
    let counts = c.loop-part.invariant.counts in
    record {
      counts = omega (arith, counts);
      done = λ k n o w.
          let g = c.loop-part.invariant.done k n o w in
          let same : h ≡ i = same_number k n i h f o c.loop-part-test.true counts in
          let there : h < length k.lines = let m = parts_count k n f o in omega (arith, same, m, c.loop-part-test.true) in
          let line : hart_view c.part-item.result ≡ line_of k.lines h =
          subst (λ (j : ℕ). hart_view c.part-item.result ≡ line_of k.lines j) (sym same) (part_line k n i f c.part-item.result o c.loop-part-test.true c.part-item.is) in
          let e = c.in_ok-finish.ensures.ended k n g.on g.within there line in
          ends_more k n i (at f) c.loop-part.self c.finish.new.self g e.0 e.1
          (subst (λ (j : ℕ). Ends k.image (line_of k.lines j) n j (at c.loop-part.self) (at c.finish.new.self)) same e.2);
    }

pub returns-in_err-finish-clause-misfit : goal.returns-in_err-finish-clause-misfit
returns-in_err-finish-clause-misfit c =
    let i = c.loop-part.part-index in
    let h = c.loop-part.hart in
    let f = c.args.self.now in
    let part = c.part-item.result in
    let q = at c.loop-part.self in
    let p = err_from_is_err_and c.from_residual.result c.from_residual.ensures.1 in
    rw (p.1, p.2)
    (on_fault_by _
    (λ (x : Fault). (k : Course) (n : ℕ) → IsOn k n c.loop-part.self → AreWithin k.lines q → h < length k.lines → hart_view part ≡ line_of k.lines h →
    (j : ℕ) × IsFaultAfter IsEndMisfit k.image (line_of k.lines h) n h j q x)
    _ c.in_err-finish.ensures.misfit (λ x u k n turns o w called.
    let g = c.loop-part.invariant.done k n o w in
    let same : h ≡ i = same_number k n i h f o c.loop-part-test.true c.loop-part.invariant.counts in
    let m = parts_count k n f o in
    let there : h < length k.lines = omega (arith, same, m, c.loop-part-test.true) in
    let line : hart_view part ≡ line_of k.lines h = subst (λ (j : ℕ). hart_view part ≡ line_of k.lines j) (sym same) (part_line k n i f part o c.loop-part-test.true c.part-item.is) in
    let z = u k n g.on g.within there line in
    record {
      hart = i;
      within = omega (arith, m, c.loop-part-test.true);
      round = n;
      called = at f;
      calls = called;
      from = q;
      before = g.ended;
      more_calls = z.0;
      why = subst (λ (j : ℕ). IsFaultAfter IsEndMisfit k.image (line_of k.lines j) n j z.0 q x) same z.1;
    }))

pub returns-clause-ended : goal.returns-clause-ended
returns-clause-ended c = λ k n o w.
    let g = c.loop-part.invariant.done k n o w in
    let m = parts_count k n c.args.self.now o in
    let all : c.loop-part.part-index ≡ length k.lines = omega (arith, m, c.loop-part-test.false, c.loop-part.auto.part-index-end) in
    (g.on, subst (λ (j : ℕ). HaveEnded k.image k.lines n (at c.args.self.now) j (at c.loop-part.self)) all g.ended)
