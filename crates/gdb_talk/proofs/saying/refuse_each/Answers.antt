use Rattle.std.proofs.Common.{ℕ, List, Option, sym, subst}
use Rattle.gdb_packets.specs.Reads.{Reads}
use Rattle.gdb_packets.specs.Stream.{next_of}
use Rattle.gdb_packets.specs.Views.{told_in}
use Rattle.gdb_packets.specs.declared.item.Item.{Item}
use Rattle.gdb_talk.specs.Serving.{Refused}
use Rattle.gdb_talk.proofs.Going.{refuses_more, refuses_none}
use Rattle.gdb_talk.proofs.saying.refuse_each.Goals as goal

pub loop-i-init : goal.loop-i-init
loop-i-init g c =
    let gave = g.S.Source.gave c.args.src.now in
    let took = g.K.Sink.took c.args.out.now in
    let H : List ℕ → Type 0 = λ held. Refused c.args.number gave gave took took held in
    subst H (sym c.new-reader.ensures) (refuses_none c.args.number gave took)

pub loop-i-preserved : goal.loop-i-preserved
loop-i-preserved g c =
    let P : Option Item → Type 0 = λ x. Reads next_of (g.S.Source.gave c.loop-i.src) c.loop-i.reader (g.S.Source.gave c.next.new.src) c.next.new.self x in
    let told = subst P c.in-Some.is c.in_ok-item.ensures.told in
    refuses_more c.args.number _ _ _ _ _ _ _ _ (told_in c.in-Some.item) c.loop-i.invariant told c.in_ok-refuse_one-in-Some.ensures
