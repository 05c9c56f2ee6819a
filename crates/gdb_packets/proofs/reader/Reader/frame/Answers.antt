use Rattle.std.proofs.Common.{◌≡◌, false, [], Some, ◌∙◌, ap, arith}
use Rattle.std.specs.Prelude.{◌==◌, IfNone}
use Rattle.std.proofs.lemmas.Bool.{ne_eqb}
use Rattle.gdb_packets.proofs.Going.{frame_closes, frame_ends, frame_goes, frame_loses}
use Rattle.gdb_packets.proofs.reader.Reader.frame.Goals as goal

pub returns-in-None-clause-told : goal.returns-in-None-clause-told
returns-in-None-clause-told g c =
    let held : IfNone c.in_ok-byte.field-0 (c.byte.new.self ≡ []) = c.in_ok-byte.ensures.end in
    frame_ends _ _ _ _ _ _ _ c.loop-i.invariant _ c.in-None.is c.in_ok-byte.ensures.ok held

pub returns-then-byte-eq35-clause-told : goal.returns-then-byte-eq35-clause-told
returns-then-byte-eq35-clause-told g c =
    let here : c.in-Some.byte ≡ 35 = omega arith in
    let is : c.in_ok-byte.field-0 ≡ Some 35 = c.in-Some.is ∙ ap Some here in
    frame_closes _ _ _ _ _ _ _ c.loop-i.invariant _ (is, c.in_ok-byte.ensures.ok) _ _ c.close.result c.close.ensures.told

pub returns-then-byte-eq35-clause-lost : goal.returns-then-byte-eq35-clause-lost
returns-then-byte-eq35-clause-lost g c = λ e.
    let here : c.in-Some.byte ≡ 35 = omega arith in
    let is : c.in_ok-byte.field-0 ≡ Some 35 = c.in-Some.is ∙ ap Some here in
    frame_loses _ _ _ _ _ _ _ c.loop-i.invariant _ (is, c.in_ok-byte.ensures.ok) _ _ (λ bs. c.close.ensures.lost bs e)

pub loop-i-preserved : goal.loop-i-preserved
loop-i-preserved g c =
    let other : (c.in-Some.byte == 35) ≡ false = ne_eqb c.in-Some.byte 35 (λ e. omega (arith, e)) in
    frame_goes _ _ _ _ _ _ _ c.loop-i.invariant _ c.in-Some.byte _ c.in-Some.is other c.in_ok-byte.ensures.ok c.add.ensures
