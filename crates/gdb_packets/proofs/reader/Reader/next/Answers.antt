use Rattle.std.proofs.Common.{◌≡◌, false, [], Some, ◌∙◌, ap, arith}
use Rattle.std.specs.Prelude.{◌==◌, IfNone}
use Rattle.std.proofs.lemmas.Bool.{ne_eqb}
use Rattle.gdb_packets.proofs.Going.{next_ends, next_frames, next_loses, next_passes, next_tells, tells_accepted, tells_again, tells_interrupt}
use Rattle.gdb_packets.proofs.reader.Reader.next.Goals as goal

pub returns-in-None-clause-told : goal.returns-in-None-clause-told
returns-in-None-clause-told g c =
    let held : IfNone c.in_ok-byte.field-0 (c.byte.new.self ≡ []) = c.in_ok-byte.ensures.end in
    next_ends _ _ _ _ _ _ c.loop-i.invariant _ c.in-None.is c.in_ok-byte.ensures.ok held

pub returns-in-36-clause-told : goal.returns-in-36-clause-told
returns-in-36-clause-told g c =
    let here : c.in-Some.byte ≡ 36 = omega arith in
    let is : c.in_ok-byte.field-0 ≡ Some 36 = c.in-Some.is ∙ ap Some here in
    next_frames _ _ _ _ _ _ c.loop-i.invariant _ is c.in_ok-byte.ensures.ok _ _ c.frame.result c.frame.ensures.told

pub returns-in-36-clause-lost : goal.returns-in-36-clause-lost
returns-in-36-clause-lost g c = λ e.
    let here : c.in-Some.byte ≡ 36 = omega arith in
    let is : c.in_ok-byte.field-0 ≡ Some 36 = c.in-Some.is ∙ ap Some here in
    next_loses _ _ _ _ _ _ c.loop-i.invariant _ is c.in_ok-byte.ensures.ok _ _ (c.frame.ensures.lost e)

pub returns-in-43-clause-told : goal.returns-in-43-clause-told
returns-in-43-clause-told g c =
    let here : c.in-Some.byte ≡ 43 = omega arith in
    let is : c.in_ok-byte.field-0 ≡ Some 43 = c.in-Some.is ∙ ap Some here in
    next_tells _ _ _ _ _ _ c.loop-i.invariant _ _ _ is c.in_ok-byte.ensures.ok tells_accepted

pub returns-in-45-clause-told : goal.returns-in-45-clause-told
returns-in-45-clause-told g c =
    let here : c.in-Some.byte ≡ 45 = omega arith in
    let is : c.in_ok-byte.field-0 ≡ Some 45 = c.in-Some.is ∙ ap Some here in
    next_tells _ _ _ _ _ _ c.loop-i.invariant _ _ _ is c.in_ok-byte.ensures.ok tells_again

pub returns-in-3-clause-told : goal.returns-in-3-clause-told
returns-in-3-clause-told g c =
    let here : c.in-Some.byte ≡ 3 = omega arith in
    let is : c.in_ok-byte.field-0 ≡ Some 3 = c.in-Some.is ∙ ap Some here in
    next_tells _ _ _ _ _ _ c.loop-i.invariant _ _ _ is c.in_ok-byte.ensures.ok tells_interrupt

pub loop-i-preserved : goal.loop-i-preserved
loop-i-preserved g c =
    let packet : (c.in-Some.byte == 36) ≡ false = ne_eqb c.in-Some.byte 36 (λ e. omega (arith, e)) in
    let accepted : (c.in-Some.byte == 43) ≡ false = ne_eqb c.in-Some.byte 43 (λ e. omega (arith, e)) in
    let again : (c.in-Some.byte == 45) ≡ false = ne_eqb c.in-Some.byte 45 (λ e. omega (arith, e)) in
    let interrupt : (c.in-Some.byte == 3) ≡ false = ne_eqb c.in-Some.byte 3 (λ e. omega (arith, e)) in
    next_passes _ _ _ _ _ _ c.loop-i.invariant _ _ c.in-Some.is c.in_ok-byte.ensures.ok packet accepted again interrupt
