use Rattle.std.proofs.Common.{length, map, refl}
use Rattle.std.proofs.lemmas.Result.{IfOk-weaker}
use Rattle.guest_rounds.specs.Guests.{opening_guest}
use Rattle.execution_file.specs.Views.{as_recorded, turn_view}
use Rattle.execution_scripts.proofs.Opened.{course, followed_even, followed_formed, found_followed, found_unfollowed, has_followed, has_halted, ok_all}
use Rattle.execution_scripts.proofs.checking.check_over.Goals as goal

pub judge-requires-clause-formed : goal.judge-requires-clause-formed
judge-requires-clause-formed c =
    let file = c.args.file.now in
    followed_formed (course c.args.image file.input.items file.harts.items c.args.asked) (map turn_view file.calls.items) c.into_way-way.result
    (has_followed c.args.image c.deref.result.now file.input.items c.deref-2.result.now file.harts.items c.deref-3.result.now file.calls.items c.args.asked c.in_ok-follower.follower c.follow-followed.new.self
    c.into_way-way.result c.deref.ensures.value c.deref-2.ensures.value c.deref-3.ensures.value c.in_ok-follower.ensures.on c.in_ok-follower.ensures.standing c.in-Ok.ensures.followed c.into_way-way.ensures)
    refl c.is_small.ensures

pub judge-requires-clause-along : goal.judge-requires-clause-along
judge-requires-clause-along c =
    let file = c.args.file.now in
    followed_even (course c.args.image file.input.items file.harts.items c.args.asked) (map turn_view file.calls.items) c.into_way-way.result
    (has_followed c.args.image c.deref.result.now file.input.items c.deref-2.result.now file.harts.items c.deref-3.result.now file.calls.items c.args.asked c.in_ok-follower.follower c.follow-followed.new.self
    c.into_way-way.result c.deref.ensures.value c.deref-2.ensures.value c.deref-3.ensures.value c.in_ok-follower.ensures.on c.in_ok-follower.ensures.standing c.in-Ok.ensures.followed c.into_way-way.ensures)
    refl

pub returns-in-Ok : goal.returns-in-Ok
returns-in-Ok c =
    let file = c.args.file.now in
    let followed =
    has_followed c.args.image c.deref.result.now file.input.items c.deref-2.result.now file.harts.items c.deref-3.result.now file.calls.items c.args.asked c.in_ok-follower.follower c.follow-followed.new.self
    c.into_way-way.result c.deref.ensures.value c.deref-2.ensures.value c.deref-3.ensures.value c.in_ok-follower.ensures.on c.in_ok-follower.ensures.standing c.in-Ok.ensures.followed c.into_way-way.ensures in
    ok_all c.judge.result _ _ _ _ _ c.judge.ensures.hands_on c.judge.ensures.verdict c.judge.ensures.names c.judge.ensures.none
    (λ k h v m x. found_followed c.args.image file c.args.asked c.into_way-way.result c.into_pieces.result.items c.new-opening.result.opening k followed c.into_pieces.ensures.bytes c.into_pieces.ensures.within
    c.new-opening.ensures.opening h v m x)

pub returns-in-Err : goal.returns-in-Err
returns-in-Err c =
    let file = c.args.file.now in
    IfOk-weaker c.halted.result _ _ (λ k h.
    found_unfollowed (opening_guest c.args.image file.input.items (length file.harts.items)) (as_recorded file) c.args.asked k h.0 h.2
    (has_halted c.args.image c.deref.result.now file.input.items c.deref-2.result.now file.harts.items c.deref-3.result.now file.calls.items c.args.asked c.in_ok-follower.follower c.in-Err.halt h.0
    c.deref.ensures.value c.deref-2.ensures.value c.deref-3.ensures.value c.in_ok-follower.ensures.on c.in_ok-follower.ensures.standing c.in-Err.ensures.misfit h.1)) c.halted.ensures
