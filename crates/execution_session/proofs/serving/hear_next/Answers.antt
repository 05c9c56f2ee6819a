use Rattle.std.proofs.Common.{◌≡◌, ◌∷◌, Option, Some, Err, inl, inr, refl, sym, ap, subst, ◌∙◌, arith}
use Rattle.gdb_packets.specs.Reads.{Reads}
use Rattle.gdb_packets.specs.Stream.{next_of}
use Rattle.gdb_packets.specs.Views.{told_in}
use Rattle.gdb_packets.specs.declared.item.Item.{Item}
use Rattle.gdb_talk.specs.Saying.{refused_text, response_text}
use Rattle.execution_session.specs.Serving.{Hears, begun, talking}
use Rattle.execution_moments.specs.Looked.{looked_at}
use Rattle.gdb_talk.proofs.Going.{serves_more, serves_said}
use Rattle.execution_session.proofs.serving.hear_next.Goals as goal

pub returns-in-Err-OutOfMemory : goal.returns-in-Err-OutOfMemory
returns-in-Err-OutOfMemory g c = λ gave k so.
    let r = looked_at c.args.past.now in
    let t = talking c.args.talk.now in
    let lost = c.next.ensures.lost (c.in-Err-OutOfMemory.is ∙ ap Err c.in-Err-OutOfMemory.field-0-is) in
    serves_more begun (Hears r) gave k _ _ _ t _ _ _ lost.0 (43 ∷ refused_text) t so lost.1 (inr (refl, refl)) c.in_ok-refuse_lost-in-Err-OutOfMemory.ensures.writes

pub returns-then-has_ended : goal.returns-then-has_ended
returns-then-has_ended g c = λ gave k so.
    let P : Option Item → Type 0 = λ x. Reads next_of (g.S.Source.gave c.args.src.now) c.args.reader.now (g.S.Source.gave c.next.new.src) c.next.new.self x in
    let e : c.in-Ok.heard ≡ Some c.in-Some.item = grind (arith, c.in-Some.is, c.in-Ok.heard-is) in
    let told = subst P e c.in-Ok.ensures.told in
    let x = told_in c.in-Some.item in
    let served =
    serves_said begun (Hears (looked_at c.args.past.now)) gave k _ _ _ (talking c.args.talk.now) _ _ _ _ x (response_text c.hear-response.result) (talking c.hear-response.new.self) so told
    (inl (record { said = response_text c.hear-response.result; fits = c.hear-response.ensures; is = refl })) c.in_ok-acknowledge.ensures.writes.ok c.in_ok-say.ensures.writes in
    (c.next.new.self, served, inl (x, sym c.has_ended.ensures ∙ c.if-has_ended.true))

pub returns : goal.returns
returns g c = λ gave k so.
    let P : Option Item → Type 0 = λ x. Reads next_of (g.S.Source.gave c.args.src.now) c.args.reader.now (g.S.Source.gave c.next.new.src) c.next.new.self x in
    let e : c.in-Ok.heard ≡ Some c.in-Some.item = grind (arith, c.in-Some.is, c.in-Ok.heard-is) in
    let told = subst P e c.in-Ok.ensures.told in
    let x = told_in c.in-Some.item in
    serves_said begun (Hears (looked_at c.args.past.now)) gave k _ _ _ (talking c.args.talk.now) _ _ _ _ x (response_text c.hear-response.result) (talking c.hear-response.new.self) so told
    (inl (record { said = response_text c.hear-response.result; fits = c.hear-response.ensures; is = refl })) c.in_ok-acknowledge.ensures.writes.ok c.in_ok-say.ensures.writes
