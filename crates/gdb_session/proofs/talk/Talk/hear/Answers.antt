use Rattle.std.proofs.Common.{◌≡◌, Option, Some, inl, inr, sym, subst, ◌∙◌}
use Rattle.gdb_packets.specs.Views.{told_in}
use Rattle.gdb_packets.specs.declared.item.Item.{Item}
use Rattle.gdb_resumes.specs.declared.searching.Search.{Search}
use Rattle.gdb_runs.specs.Sessions.{recorded_of}
use Rattle.gdb_talk.specs.Asking.{asked_by}
use Rattle.gdb_talk.specs.Saying.{response_text}
use Rattle.gdb_session.specs.Serving.{HearsBy, HearsWhile, talking}
use Rattle.gdb_session.proofs.Resuming.{heard_alone, heard_packet, heard_spoilt}
use Rattle.gdb_session.proofs.talk.Talk.hear.Goals as goal

pub returns-in_default-clause-hears : goal.returns-in_default-clause-hears
returns-in_default-clause-hears g c = λ m is.
    let r = recorded_of m c.args.run.now in
    let s = talking c.args.self.now in
    let t = talking c.hear_alone.new.self in
    let x = told_in c.args.item.now in
    let said = response_text c.hear_alone.result in
    let none = sym c.take.ensures.value ∙ c.in_default.is in
    let T : Option Search → Type 0 = λ o. HearsBy r (record s { searching = o }) (asked_by x s.last) said t in
    let G : Option Search → Type 0 = λ o. HearsWhile r s x o said t in
    subst G (sym none) (heard_alone r s said t x (subst T (c.take.ensures.after ∙ sym none) (c.hear_alone.ensures.hears m is)))

pub returns-in-Accepted-clause-hears : goal.returns-in-Accepted-clause-hears
returns-in-Accepted-clause-hears g c = λ m is.
    let r = recorded_of m c.args.run.now in
    let s = talking c.args.self.now in
    let t = talking c.go_on.new.self in
    let some = sym c.take.ensures.value ∙ c.in-Some.is in
    let G : Item → Option Search → Type 0 = λ i o. HearsWhile r s (told_in i) o (response_text c.go_on.result) t in
    let G_some : Item → Type 0 = λ i. G i (Some c.in-Some.search) in
    subst (G c.args.item.now) (sym some) (subst G_some (sym c.in-Accepted.is) (c.go_on.ensures.goes m is))

pub returns-in-Interrupt-clause-hears : goal.returns-in-Interrupt-clause-hears
returns-in-Interrupt-clause-hears g c = λ m is.
    let r = recorded_of m c.args.run.now in
    let s = talking c.args.self.now in
    let t = talking c.end_search.new.self in
    let some = sym c.take.ensures.value ∙ c.in-Some.is in
    let G : Item → Option Search → Type 0 = λ i o. HearsWhile r s (told_in i) o (response_text c.end_search.result) t in
    let G_some : Item → Type 0 = λ i. G i (Some c.in-Some.search) in
    subst (G c.args.item.now) (sym some) (subst G_some (sym c.in-Interrupt.is) (c.end_search.ensures.ends m is))

pub returns-in-Packet-clause-hears : goal.returns-in-Packet-clause-hears
returns-in-Packet-clause-hears g c = λ m is.
    let r = recorded_of m c.args.run.now in
    let s = talking c.args.self.now in
    let t = talking c.hear_alone-in-Packet.new.self in
    let said = response_text c.hear_alone-in-Packet.result in
    let some = sym c.take.ensures.value ∙ c.in-Some.is in
    let T : Option Search → Type 0 = λ o. HearsBy r (record s { searching = o }) (asked_by (told_in c.args.item.now) s.last) said t in
    let Beside : Item → Type 0 = λ i. (o : Option Search) → HearsBy r s (asked_by (told_in i) s.last) said t → HearsWhile r s (told_in i) o said t in
    let beside : Beside c.args.item.now =
    elim c.in-Packet.is [
      | inl p ↦ subst Beside (sym p.1) (λ o h. heard_packet r s said t p.0.items o h)
      | inr e ↦ subst Beside (sym e) (λ o h. heard_spoilt r s said t o h)
    ] in
    beside s.searching (subst T (sym some) (c.hear_alone-in-Packet.ensures.hears m is))
