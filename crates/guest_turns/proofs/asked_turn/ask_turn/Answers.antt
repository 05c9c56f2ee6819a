use Rattle.std.proofs.Common.{refl, sym, subst, ◌∙◌}
use Rattle.std.proofs.lemmas.Result.{IfOk-weaker}
use Rattle.pages.specs.Memory.{Memory}
use Rattle.commit_phase.specs.Commit.{Committed}
use Rattle.guest_rounds.specs.Guests.{shared_of}
use Rattle.guest_rounds.specs.HartEnds.{AreEndsOf}
use Rattle.guest_turns.proofs.AskedTurns.{begun_there, had_then}
use Rattle.guest_rounds.proofs.ShownCode.{shows_committed}
use Rattle.guest_turns.proofs.asked_turn.ask_turn.Goals as goal

pub invariant_of-shared : goal.invariant_of-shared
invariant_of-shared g c =
    let rounds = c.requires.rounds in
    let same = c.in_ok-make_turn_room.ensures.keeps.memory in
    let committed = c.commit.ensures.committed rounds.0 rounds.1 (subst (λ (x : Memory). AreEndsOf rounds.0 x rounds.1 c.args.ends.now) (sym same) rounds.2) in
    record { shows = shows_committed rounds.1 c.args.shared.now.pages.memory c.make_turn_room.new.shared c.commit.new.pages c.commit.new.reservations same committed rounds.3 }

pub returns : goal.returns
returns g c =
    IfOk-weaker c.sight_at.result _ _
    (λ s p logs rs a.
    let old = shared_of c.args.shared.now in
    let os = c.args.ends.now in
    let same = c.in_ok-make_turn_room.ensures.keeps.memory in
    let committed = subst (λ t. Committed rs c.make_turn_room.new.shared.pages c.commit.new.pages t c.commit.new.reservations) c.in_ok-make_turn_room.ensures.reservations
    (c.commit.ensures.committed logs rs (subst (λ (x : Memory). AreEndsOf logs x rs os) (sym same) a)) in
    let room = c.in_ok-make_turn_room-2.ensures in
    p
    ∙ begun_there logs _ c.args.place c.args.start old rs os c.make_turn_room.new.shared.pages _ c.make_turn_room-2.new.shared refl a same committed c.in_ok-make_turn_room.ensures.console
    (had_then _ _ _ c.take_turns.new.shared c.make_turn_room-2.new.shared c.in_ok-take_turns.ensures.turns (record { keeps = room.keeps; reservations = room.reservations; console = room.console })))
    c.sight_at.ensures
