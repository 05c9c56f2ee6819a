use Rattle.std.proofs.Common.{[], refl, sym, subst}
use Rattle.std.proofs.lemmas.Result.{on_ok_weaker}
use Rattle.pages.specs.Memory.{Memory}
use Rattle.commit_phase.specs.Commit.{Committed}
use Rattle.serial_phase.specs.declared.shared.SharedState.{SharedState}
use Rattle.guest_rounds.specs.Guests.{shared_of}
use Rattle.guest_rounds.specs.HartEnds.{AreEndsOf}
use Rattle.guest_rounds.proofs.ShownCode.{shows_committed}
use Rattle.guest_turns.proofs.TurnHartsFound.{committed_turns}
use Rattle.guest_turns.proofs.turn_harts.visit_committed.Goals as goal

pub invariant_of-shared : goal.invariant_of-shared
invariant_of-shared g c =
    let rounds = c.requires.rounds in
    let same = c.in_ok-make_turn_room.ensures.keeps.memory in
    let committed = c.commit.ensures.committed rounds.0 rounds.1 (subst (λ (x : Memory). AreEndsOf rounds.0 x rounds.1 c.args.ends.now) (sym same) rounds.2) in
    record { shows = shows_committed rounds.1 c.args.shared.now.pages.memory c.make_turn_room.new.shared c.commit.new.pages c.commit.new.reservations same committed rounds.3 }

pub returns : goal.returns
returns g c =
    let old = shared_of c.args.shared.now in
    let os = c.args.ends.now in
    let same = c.in_ok-make_turn_room.ensures.keeps.memory in
    let room = c.make_turn_room.new.shared in
    let rounds = c.requires.rounds in
    let first = c.commit.ensures.committed rounds.0 rounds.1 (subst (λ (x : Memory). AreEndsOf rounds.0 x rounds.1 os) (sym same) rounds.2) in
    let start : SharedState = record room {
      pages = c.commit.new.pages;
      reservations = c.commit.new.reservations;
      shows = shows_committed rounds.1 old.memory room c.commit.new.pages c.commit.new.reservations same first rounds.3;
    } in
    on_ok_weaker c.visit_each.result
    (λ shows logs rs a first k.
    let committed = subst (λ t. Committed rs c.make_turn_room.new.shared.pages c.commit.new.pages t c.commit.new.reservations) c.in_ok-make_turn_room.ensures.reservations
    (c.commit.ensures.committed logs rs (subst (λ (x : Memory). AreEndsOf logs x rs os) (sym same) a)) in
    subst (λ hss. g.V.TurnVisitor.knows first c.visit_each.new.visitor hss [])
    (committed_turns logs _ c.args.round c.args.budget old rs os room.pages start _ refl a same committed c.in_ok-make_turn_room.ensures.console shows.adds)
    (shows.shown first [] refl k))
    c.visit_each.ensures
