use Rattle.std.proofs.Common.{ℕ, Bool, List, [], sym, subst}
use Rattle.execution_session.specs.Serving.{Hears, Served, ServesOn, Talking, begun, talking}
use Rattle.execution_moments.specs.Looked.{looked_at}
use Rattle.gdb_talk.proofs.Going.{serves_none}
use Rattle.execution_session.proofs.serving.serve.Goals as goal

pub loop-i-init : goal.loop-i-init
loop-i-init g c =
    let r = looked_at c.args.past.now in
    let gave = g.S.Source.gave c.args.src.now in
    let took = g.K.Sink.took c.args.out.now in
    let P : Talking → Type 0 = λ t. Served r gave gave took took [] t in
    let H : List ℕ → Type 0 = λ held. Served r gave gave took took held (talking c.new-talk.result) in
    subst H (sym c.new-reader.ensures) (subst P (sym c.new-talk.ensures) (serves_none begun (Hears r) gave took))

pub returns-then-not-branch : goal.returns-then-not-branch
returns-then-not-branch g c =
    let r = looked_at c.args.past.now in
    let gave = g.S.Source.gave c.args.src.now in
    let took = g.K.Sink.took c.args.out.now in
    let on = c.in_ok-hear_next.ensures gave took c.loop-i.invariant in
    let P : Bool → Type 0 = λ b. ServesOn r gave (g.S.Source.gave c.hear_next.new.src) took (g.K.Sink.took c.hear_next.new.out) c.hear_next.new.reader (talking c.hear_next.new.talk) b in
    let ended = subst P c.if-not-branch.true on in
    (talking c.hear_next.new.talk, ended.0, ended.1, ended.2)
