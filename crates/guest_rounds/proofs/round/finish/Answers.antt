use Rattle.std.proofs.Common.{◌≡◌, Bool, ◌*◌, ◌≤◌, ◌++◌, ℕ, List, length, sym, ap, ◌∙◌, subst, arith}
use Rattle.std.proofs.lemmas.Nat.{mul-le}
use Rattle.pages.specs.Memory.{Memory}
use Rattle.commit_phase.specs.Commit.{Committed}
use Rattle.serial_phase.specs.declared.shared.SharedState.{SharedState}
use Rattle.round_schedule.specs.declared.event.Event.{Event}
use Rattle.hart_step.specs.declared.hart.Hart.{Hart}
use Rattle.serial_phase.specs.Phase.{TakesTurns, serial_done, budget_from}
use Rattle.serial_phase.specs.Roomed.{HasRoom}
use Rattle.hart_rounds.specs.declared.hart_end.HartEnd.{HartEnd}
use Rattle.guest_rounds.specs.HartEnds.{AreFit, StoppedStay, AreEndsOf, AreReady, mask_of, waits_of, harts_of, events_of_rounds, round_events}
use Rattle.guest_rounds.proofs.ShownCode.{shows_committed}
use Rattle.guest_rounds.proofs.Counted.{all_logged, count_events, few_turns}
use Rattle.guest_rounds.proofs.StoppedHarts.{stay_by_turns}
use Rattle.guest_rounds.proofs.RoundDone.{by_ends, by_rounds, finished_from, needed_is, length-waits, length-harts, spares_left, log_of}
use Rattle.guest_rounds.proofs.Tallied.{count_most, turns_by_count}
use Rattle.guest_rounds.proofs.round.finish.Goals as goal

pub overflow_mul-turns : goal.overflow_mul-turns
overflow_mul-turns g c =
    let bs = waits_of c.args.ends.now in
    let few : c.args.tally.waited ≤ 64 = omega (arith, c.requires.waited, count_most bs, length-waits c.args.ends.now, c.requires.few) in
    omega (arith, mul-le c.args.tally.waited c.args.phase.budget 64 1000 few c.requires.budget)

pub make_room-requires : goal.make_room-requires
make_room-requires g c = λ e.
    c.requires.counted ∙ all_logged c.args.shared.now.pages.memory c.requires.rounds.0 c.args.ends.now
    (subst (λ (b : Bool). AreEndsOf b c.args.shared.now.pages.memory c.requires.rounds.0 c.args.ends.now) e c.requires.rounds.1)

pub commit-requires-clause-few : goal.commit-requires-clause-few
commit-requires-clause-few g c = λ lifetimes within. omega (arith, c.requires.few, ap length c.in_ok-adopts.ensures.ends)

pub commit-requires-clause-fits : goal.commit-requires-clause-fits
commit-requires-clause-fits g c = λ lifetimes within.
    subst (λ (x : List HartEnd). AreFit c.make_turn_room.new.shared.pages.memory x) (sym c.in_ok-adopts.ensures.ends)
    (subst (λ (m : Memory). AreFit m c.args.ends.now) (sym c.in_ok-make_turn_room.ensures.keeps.memory) c.requires.fits)

pub commit-requires-clause-ready : goal.commit-requires-clause-ready
commit-requires-clause-ready g c = λ lifetimes within.
    subst (λ (x : List HartEnd). AreReady c.make_turn_room.new.shared.pages x) (sym c.in_ok-adopts.ensures.ends) c.in_ok-make_turn_room.ensures.ready

pub invariant_of-shared : goal.invariant_of-shared
invariant_of-shared g c =
    let room = c.make_turn_room.new.shared in
    let rounds = c.requires.rounds in
    let m = c.args.shared.now.pages.memory in
    let same = c.in_ok-make_turn_room.ensures.keeps.memory in
    let committed = c.commit.ensures.committed g.E.EventKeeper.logs rounds.0 (subst (λ (x : Memory). AreEndsOf g.E.EventKeeper.logs x rounds.0 c.make_room.new.ends) (sym same)
    (subst (λ (x : List HartEnd). AreEndsOf g.E.EventKeeper.logs m rounds.0 x) (sym c.in_ok-adopts.ensures.ends) rounds.1)) in
    record { shows = shows_committed rounds.0 m room c.commit.new.pages c.commit.new.reservations same committed rounds.2 }

pub serial-requires : goal.serial-requires
serial-requires g c =
    let os = c.args.ends.now in
    let phase = c.args.phase in
    let room = c.make_turn_room.new.shared in
    let hs = c.give_harts.new.harts in
    let size : length hs ≡ length os = ap length (c.give_harts.ensures ∙ ap harts_of c.in_ok-adopts.ensures.ends) ∙ length-harts os in
    let turns = c.args.tally.waited * phase.budget in
    let need : budget_from phase.waiting phase.budget 0 (length hs) ≡ turns =
    ap (λ (w : ℕ). budget_from w phase.budget 0 (length hs)) c.requires.waiting
    ∙ ap (budget_from (mask_of (waits_of os)) phase.budget 0) (size ∙ sym (length-waits os)) ∙ needed_is phase.budget (waits_of os)
    ∙ turns_by_count phase.budget (waits_of os) ∙ sym (ap (λ (n : ℕ). n * phase.budget) c.requires.waited) in
    let rounds = c.requires.rounds in
    let m = c.args.shared.now.pages.memory in
    let same = c.in_ok-make_turn_room.ensures.keeps.memory in
    let committed = c.commit.ensures.committed g.E.EventKeeper.logs rounds.0 (subst (λ (x : Memory). AreEndsOf g.E.EventKeeper.logs x rounds.0 c.make_room.new.ends) (sym same)
    (subst (λ (x : List HartEnd). AreEndsOf g.E.EventKeeper.logs m rounds.0 x) (sym c.in_ok-adopts.ensures.ends) rounds.1)) in
    record {
      harts = size ∙ sym c.requires.size ∙ ap length (sym c.make_turn_room.ensures.reservations) ∙ sym c.commit.ensures.size;
      few = omega (arith, size, c.requires.few);
      pages = spares_left turns _ room.pages c.commit.new.pages need c.commit.ensures.ready c.commit.ensures.spare c.in_ok-make_turn_room.ensures.spares;
      console = subst (λ (n : ℕ). HasRoom n room.console) (sym need) c.in_ok-make_turn_room.ensures.output;
      log = subst (λ (n : ℕ). n ≤ room.log.room) (sym need) c.in_ok-make_turn_room.ensures.log_room;
      closed = c.in_ok-make_turn_room.ensures.closed;
      current = c.in_ok-make_turn_room.ensures.current;
    }

pub len-requires : goal.len-requires
len-requires g c = c.serial.ensures.current

pub returns-clause-kept : goal.returns-clause-kept
returns-clause-kept g c =
    subst (StoppedStay c.serial.new.harts) (c.give_harts.ensures ∙ sym c.add.ensures.harts)
    (stay_by_turns c.args.phase c.give_harts.new.harts c.serial.new.harts _ c.serial.new.state c.serial.ensures.turns)

pub add-requires : goal.add-requires
add-requires g c =
    let os = c.args.ends.now in
    let rs = c.requires.rounds.0 in
    let a = c.requires.rounds.1 in
    let sound = c.requires.rounds.3 in
    let phase = c.args.phase in
    let start : SharedState = record c.make_turn_room.new.shared { pages = c.commit.new.pages; reservations = c.commit.new.reservations; shows = _ } in
    let served = subst (λ (hs : List Hart). TakesTurns (serial_done phase hs start) c.serial.new.harts start c.serial.new.state) (c.give_harts.ensures ∙ ap harts_of c.in_ok-adopts.ensures.ends) c.serial.ensures.turns in
    let fits = log_of phase (waits_of os) (harts_of os) c.serial.new.harts start c.serial.new.state (length-waits os ∙ sym (length-harts os)) c.requires.waiting served in
    let kept = c.in_ok-make_turn_room.ensures.keeps.memory in
    let same = c.in_ok-adopts.ensures.ends in
    let finished = finished_from phase rs os c.serial.new.harts c.args.shared.now c.make_turn_room.new.shared start c.serial.new.state kept
    (subst (λ t. Committed rs c.make_turn_room.new.shared.pages c.commit.new.pages t c.commit.new.reservations) c.make_turn_room.ensures.reservations (c.commit.ensures.committed g.E.EventKeeper.logs rs (subst (λ (m : Memory). AreEndsOf g.E.EventKeeper.logs m rs c.make_room.new.ends) (sym kept)
    (subst (λ (x : List HartEnd). AreEndsOf g.E.EventKeeper.logs c.args.shared.now.pages.memory rs x) (sym same) a)))) c.make_turn_room.ensures.console served in
    record {
      harts = fits.length ∙ length-harts os ∙ sym (ap length same);
      few = omega (arith, c.requires.few, ap length same);
      room = (c.args.tally.waited * phase.budget, c.in_ok-adopts.ensures.room, omega (arith, fits.fits, turns_by_count phase.budget (waits_of os), ap (λ (n : ℕ). n * phase.budget) c.requires.waited));
      sound = (
        sound.0,
        c.in_ok-adopts.ensures.kept sound.0 sound.1,
        subst (λ (x : List HartEnd). g.E.EventKeeper.may_keep (sound.0 ++ round_events phase.round x c.serial.new.state.log.closed)) (sym same)
            (by_ends g.E.EventKeeper.may_keep g.E.EventKeeper.logs g.met.E.EventKeeper.may_keep_any c.args.shared.now.pages.memory phase.round rs os c.serial.new.state.log.closed sound.0 a (sound.2 _ _ finished)),
      );
    }

pub returns-clause-ok : goal.returns-clause-ok
returns-clause-ok g c = λ rs a.
    let os = c.args.ends.now in
    let phase = c.args.phase in
    let start : SharedState = record c.make_turn_room.new.shared { pages = c.commit.new.pages; reservations = c.commit.new.reservations; shows = _ } in
    let served = subst (λ (hs : List Hart). TakesTurns (serial_done phase hs start) c.serial.new.harts start c.serial.new.state) (c.give_harts.ensures ∙ ap harts_of c.in_ok-adopts.ensures.ends) c.serial.ensures.turns in
    let kept = c.in_ok-make_turn_room.ensures.keeps.memory in
    let same = c.in_ok-adopts.ensures.ends in
    let finished = finished_from phase rs os c.serial.new.harts c.args.shared.now c.make_turn_room.new.shared start c.serial.new.state kept
    (subst (λ t. Committed rs c.make_turn_room.new.shared.pages c.commit.new.pages t c.commit.new.reservations) c.make_turn_room.ensures.reservations (c.commit.ensures.committed g.E.EventKeeper.logs rs (subst (λ (m : Memory). AreEndsOf g.E.EventKeeper.logs m rs c.make_room.new.ends) (sym kept)
    (subst (λ (x : List HartEnd). AreEndsOf g.E.EventKeeper.logs c.args.shared.now.pages.memory rs x) (sym same) a)))) c.make_turn_room.ensures.console served in
    let closed = c.serial.new.state.log.closed in
    let all = events_of_rounds phase.round rs closed in
    let m = c.args.shared.now.pages.memory in
    let events = subst (λ (x : List HartEnd). (es : List Event) → g.E.EventKeeper.keeps c.make_room.new.self es → g.E.EventKeeper.keeps c.add.new.self (es ++ round_events phase.round x c.serial.new.state.log.closed)) same c.add.ensures.kept in (
      all,
      finished,
      omega (arith, c.requires.counted, c.len.ensures, count_events g.E.EventKeeper.logs m phase.round rs os closed a),
      λ es k. by_rounds (g.E.EventKeeper.keeps c.add.new.self) g.E.EventKeeper.logs (λ e. g.met.E.EventKeeper.keeps_any e c.add.new.self) m phase.round rs os closed es a (events es (c.in_ok-adopts.ensures.kept es k)),
    )

pub returns-clause-few : goal.returns-clause-few
returns-clause-few g c =
    let os = c.args.ends.now in
    let phase = c.args.phase in
    let start : SharedState = record c.make_turn_room.new.shared { pages = c.commit.new.pages; reservations = c.commit.new.reservations; shows = _ } in
    let served = subst (λ (hs : List Hart). TakesTurns (serial_done phase hs start) c.serial.new.harts start c.serial.new.state) (c.give_harts.ensures ∙ ap harts_of c.in_ok-adopts.ensures.ends) c.serial.ensures.turns in
    let fits = log_of phase (waits_of os) (harts_of os) c.serial.new.harts start c.serial.new.state (length-waits os ∙ sym (length-harts os)) c.requires.waiting served in
    omega (arith, c.requires.accesses, c.requires.counted, c.len.ensures, fits.fits, few_turns phase.budget (waits_of os) c.requires.budget, length-waits os, c.requires.few)

pub overflow_add-events : goal.overflow_add-events
overflow_add-events g c =
    let os = c.args.ends.now in
    let phase = c.args.phase in
    let start : SharedState = record c.make_turn_room.new.shared { pages = c.commit.new.pages; reservations = c.commit.new.reservations; shows = _ } in
    let served = subst (λ (hs : List Hart). TakesTurns (serial_done phase hs start) c.serial.new.harts start c.serial.new.state) (c.give_harts.ensures ∙ ap harts_of c.in_ok-adopts.ensures.ends) c.serial.ensures.turns in
    let fits = log_of phase (waits_of os) (harts_of os) c.serial.new.harts start c.serial.new.state (length-waits os ∙ sym (length-harts os)) c.requires.waiting served in
    omega (arith, c.requires.accesses, c.requires.counted, c.len.ensures, fits.fits, few_turns phase.budget (waits_of os) c.requires.budget, length-waits os, c.requires.few)
