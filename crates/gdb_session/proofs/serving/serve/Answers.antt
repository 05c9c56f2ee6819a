use Rattle.std.proofs.Common.{◌≡◌, rules, ℕ, Bool, false, List, [], Option, refl, sym, ap, subst}
use Rattle.gdb_session.specs.Serving.{Hears, Served, ServesOn, Talking, begun, talking}
use Rattle.std.specs.Prelude.{IfSome}
use Rattle.gdb_resumes.specs.declared.searching.Search.{Search}
use Rattle.gdb_resumes.specs.Resumes.{IsUnderWay}
use Rattle.gdb_runs.specs.Sessions.{IsReady, Recorded, recorded_of, state_of}
use Rattle.gdb_runs.proofs.Runs.{of_same}
use Rattle.gdb_talk.proofs.Going.{serves_none}
use Rattle.gdb_session.proofs.serving.serve.Goals as goal

pub loop-i-init : goal.loop-i-init
loop-i-init g c =
    let gave = g.S.Source.gave c.args.src.now in
    let took = g.K.Sink.took c.args.out.now in
    let Q : Talking → Type 0 = λ t. IsReady c.args.run.now t.state.standing in
    let S : Option Search → Type 0 = λ o. IfSome o (λ x. IsUnderWay c.args.run.now (state_of c.new-talk.result.session) x) in (
      refl,
      subst Q (sym c.new-talk.ensures) c.requires.ready,
      subst S (sym (ap (λ (t : Talking). t.searching) c.new-talk.ensures)) tt,
      λ m is.
          let r = recorded_of m c.args.run.now in
          let P : Talking → Type 0 = λ t. Served r gave gave took took [] t in
          let H : List ℕ → Type 0 = λ held. Served r gave gave took took held (talking c.new-talk.result) in
          subst H (sym c.new-reader.ensures) (subst P (sym c.new-talk.ensures) (serves_none begun (Hears r) gave took)),
    )

pub returns-then-not-branch-clause-serves : goal.returns-then-not-branch-clause-serves
returns-then-not-branch-clause-serves g c = λ m is.
    let d = c.args.run.now in
    let gave = g.S.Source.gave c.args.src.now in
    let took = g.K.Sink.took c.args.out.now in
    let t = talking c.hear_next.new.talk in
    let On : Recorded → Bool → Type 0 = λ r b. ServesOn r gave (g.S.Source.gave c.hear_next.new.src) took (g.K.Sink.took c.hear_next.new.out) c.hear_next.new.reader t b in
    let P : Recorded → Type 0 = λ r. (x k : List ℕ) →
    Served r x (g.S.Source.gave c.loop-i.src) k (g.K.Sink.took c.loop-i.out) c.loop-i.reader (talking c.loop-i.talk) →
    ServesOn r x (g.S.Source.gave c.hear_next.new.src) k (g.K.Sink.took c.hear_next.new.out) c.hear_next.new.reader t c.in_ok-hear_next.field-0 in
    let left : c.in_ok-hear_next.field-0 ≡ false = search rules in
    let on = of_same d c.loop-i.run P c.loop-i.invariant.0 c.in_ok-hear_next.ensures.serves m is gave took (c.loop-i.invariant.3 m is) in
    let end = subst (On (recorded_of m d)) left on in
    (t, end.0, end.1, end.2)
