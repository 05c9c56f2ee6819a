-- The harts along the turns that are done: instruction by instruction, turn by turn, and from the rounds of all harts.
use Rattle.std.proofs.Common.{◌≡◌, ℕ, zero, suc, ◌+◌, ◌-◌, ◌<◌, ◌≤◌, Bool, true, false, cond, List, [], ◌∷◌, ◌++◌, length, take, get_or, is_some, Option, option_to_list, refl, sym, ◌∙◌, ap, subst, arith, append_assoc, append-nil, length-append}
use Rattle.pages.specs.Memory.{IsBytes, Memory, after, stored}
use Rattle.pages.specs.Paged.{Paged}
use Rattle.pages.specs.declared.access.Range.{Range}
use Rattle.round_schedule.specs.declared.access.Access.{Access}
use Rattle.round_schedule.specs.declared.access.Stepped.{Stepped}
use Rattle.round_schedule.specs.declared.access.Stepped.TheVariants.{Done, Waits, Stopped}
use Rattle.round_schedule.specs.declared.event.Event.{Event}
use Rattle.round_schedule.specs.declared.span.Span.{Span}
use Rattle.round_schedule.specs.ReservingTurn.{ReservingPhase, ReservingTurn, reserving_phase_joined, reserving_turn_from, reserving_turn_next, reserving_turn_of, updated_by}
use Rattle.round_schedule.specs.Schedule.{HartRound, SerialOutcome, all_stores, hart_rounds}
use Rattle.round_schedule.specs.Reservations.{Tied, entry}
use Rattle.round_planner.specs.Quotas.{Planned, quotas_of}
use Rattle.commit_phase.specs.Commit.{Committed}
use Rattle.hart_step.specs.declared.hart.Hart.{Hart}
use Rattle.hart_step.specs.Console.{ConsoleState}
use Rattle.hart_step.specs.Room.{TakesDirectly}
use Rattle.hart_step.specs.SerialStep.{serial_stepped}
use Rattle.hart_step.specs.Words.{words_of}
use Rattle.hart_step.proofs.Soundness.{sound}
use Rattle.serial_phase.specs.Asking.{reserving_turn_went}
use Rattle.serial_phase.proofs.Words.{picked, picked_not}
use Rattle.serial_phase.specs.Phase.{TakesTurn, turn_done}
use Rattle.serial_phase.specs.Roomed.{Roomed}
use Rattle.serial_phase.specs.Turns.{Turns}
use Rattle.serial_phase.specs.UnderWay.{At, Under, reserving_turn_at}
use Rattle.serial_phase.specs.Words.{answered_reservations}
use Rattle.serial_phase.specs.declared.shared.SharedState.{SharedState}
use Rattle.serial_phase.specs.declared.shared.Turn.{Turn}
use Rattle.serial_phase.proofs.Came.{Came}
use Rattle.serial_phase.proofs.ShownCode.{ShowsCode}
use Rattle.serial_phase.proofs.TurnUnderWay.{Ends, IsNext, ends_off, ends_over, ends_stopped, ends_waiting, outcome_at, under_first, under_more, under_waited, went}
use Rattle.hart_rounds.specs.declared.hart_end.HartEnd.{HartEnd}
use Rattle.guest_turns.specs.Asked.{ready_for_turns, reserving_turn_begun}
use Rattle.guest_rounds.specs.Guests.{Shared}
use Rattle.guest_rounds.specs.HartEnds.{AreEndsOf}
use Rattle.guest_turns.specs.ReservingTurnHarts.{AddsTurns, ShowsTurn, ShowsTurns, WalksTurn, by_reserving_answer, reserving_turns_from, turns_in_reserving_phase}
use Rattle.guest_turns.specs.TurnHarts.{turns_in_round}
use Rattle.guest_turns.proofs.AskedTurns.{next_turn, rest, turn_for}
use Rattle.guest_rounds.proofs.EndParts.{hart_is, waits_is}
use Rattle.guest_turns.proofs.TurnHartsReserving.{round_harts}

-- ---- instruction by instruction

-- the harts along the next k instructions of a turn that began at x and is at y
abbrev pub harts_left : Turn → At → ℕ → At → List Hart
harts_left turn x k y = reserving_turns_from (words_of x.state.pages.memory.code) turn.round turn.hart k (reserving_turn_at y)

-- a turn that is walked has come to y: these harts were passed, and the rest is to come
pub record Walked (turn : Turn) (left : ℕ) (old passed : List Hart) (x y : At) : Type 0 where
  pub under : Under turn left x y
  pub harts : old ++ harts_left turn x turn.budget x ≡ passed ++ harts_left turn x left y

none_left : (turn : Turn) (x y : At) (left : ℕ) → left ≡ 0 → harts_left turn x left y ≡ y.hart ∷ []
unfolding reserving_turns_from
none_left turn x y zero e = refl
none_left turn x y (suc k) e = absurd (omega (arith, e))

stopped_left : (turn : Turn) (x y : At) (left : ℕ) → 0 < left → is_some y.hart.stop ≡ true → harts_left turn x left y ≡ y.hart ∷ []
unfolding reserving_turns_from
stopped_left turn x y zero some off = absurd (omega (arith, some))
stopped_left turn x y (suc k) some off = picked (is_some y.hart.stop) (y.hart ∷ []) _ off

one_left : (turn : Turn) (x y : At) (left rest : ℕ) → left ≡ suc rest → is_some y.hart.stop ≡ false →
    harts_left turn x left y ≡ by_reserving_answer turn.hart (reserving_turn_next (words_of x.state.pages.memory.code) turn.round turn.hart (reserving_turn_at y)).answer (reserving_turn_at y)
    (reserving_turn_next (words_of x.state.pages.memory.code) turn.round turn.hart (reserving_turn_at y)) (reserving_turns_from (words_of x.state.pages.memory.code) turn.round turn.hart rest)
unfolding reserving_turns_from
one_left turn x y zero rest e on = absurd (omega (arith, e))
one_left turn x y (suc k) rest e on = ap (λ (j : ℕ). harts_left turn x (suc j) y) (omega (arith, e)) ∙ picked_not (is_some y.hart.stop) (y.hart ∷ []) _ on

same_next : (turn : Turn) (x y : At) → y.state.pages.memory.code ≡ x.state.pages.memory.code →
    reserving_turn_next (words_of x.state.pages.memory.code) turn.round turn.hart (reserving_turn_at y) ≡ outcome_at turn y
same_next turn x y same =
    ap (λ (code : List Range). serial_stepped turn.round y.hart (record { bytes = y.state.pages.memory.bytes; code = code }) y.state.console.console (entry y.state.reservations turn.hart)) (sym same)

-- the next instruction, as the code does it
next_left : (turn : Turn) (x y : At) (left : ℕ) (z : Came) → 0 < left → is_some y.hart.stop ≡ false → y.state.pages.memory.code ≡ x.state.pages.memory.code → IsNext turn y z →
    harts_left turn x left y ≡ by_reserving_answer turn.hart z.answer (reserving_turn_at y) (outcome_at turn y) (reserving_turns_from (words_of x.state.pages.memory.code) turn.round turn.hart (left - 1))
next_left turn x y left z some on same n =
    let later : ReservingTurn Hart ConsoleState → List Hart = reserving_turns_from (words_of x.state.pages.memory.code) turn.round turn.hart (left - 1) in
    one_left turn x y left (left - 1) (omega (arith, some)) on
    ∙ ap (λ (o : SerialOutcome Hart ConsoleState). by_reserving_answer turn.hart o.answer (reserving_turn_at y) o later) (same_next turn x y same)
    ∙ ap (λ (b : Stepped). by_reserving_answer turn.hart b (reserving_turn_at y) (outcome_at turn y) later) (sym n.0)

harts_more : (turn : Turn) (left : ℕ) (old passed more : List Hart) (x y : At) (z : Came) (l : Turns) (a : Option Access) → 0 < left → is_some y.hart.stop ≡ false → z.answer ≡ Done a → IsNext turn y z →
    l.current ≡ z.state.log.current ++ option_to_list a → more ≡ passed ++ y.hart ∷ [] → Walked turn left old passed x y → old ++ harts_left turn x turn.budget x ≡ more ++ harts_left turn x (left - 1) (went z l z.state.shows)
harts_more turn left old passed more x y z l a some on is n log pushed u =
    let s = n.1 in
    let o = outcome_at turn y in
    let done : o.answer ≡ Done a = sym n.0 ∙ is in
    let bytes : z.state.pages.memory.bytes ≡ after y.state.pages.memory.bytes o.stores = ap (λ (m : Memory). m.bytes) s.pages.memory in
    let entries : z.state.reservations ≡ updated_by turn.hart a y.state.reservations = s.reservations ∙ ap (λ (b : Stepped). answered_reservations turn.hart b y.state.reservations) done in
    let current : l.current ≡ y.state.log.current ++ option_to_list a = log ∙ ap (λ (k : Turns). k.current ++ option_to_list a) s.log in
    let at_next : reserving_turn_at (went z l z.state.shows) ≡ reserving_turn_went turn.hart (reserving_turn_at y) o a = cc (s.hart, bytes, s.console, entries, current) in
    let later : ReservingTurn Hart ConsoleState → List Hart = reserving_turns_from (words_of x.state.pages.memory.code) turn.round turn.hart (left - 1) in
    u.harts
    ∙ ap (λ (hs : List Hart). passed ++ hs)
    (next_left turn x y left z some on u.under.keeps.code n
    ∙ ap (λ (b : Stepped). by_reserving_answer turn.hart b (reserving_turn_at y) o later) is
    ∙ ap (λ (d : ReservingTurn Hart ConsoleState). y.hart ∷ later d) (sym at_next))
    ∙ sym (append_assoc passed (y.hart ∷ []) (later (reserving_turn_at (went z l z.state.shows))))
    ∙ ap (λ (hs : List Hart). hs ++ later (reserving_turn_at (went z l z.state.shows))) (sym pushed)

-- with a spare page more, where it comes to the same
abbrev pub roomier_at : (y : At) (p : Paged) → ShowsCode p y.state.code → At
roomier_at y p shows = record { hart = y.hart; state = record y.state { pages = p; shows = shows } }

walked_still : (turn : Turn) (left : ℕ) (old passed : List Hart) (x y : At) (p : Paged) (shows : ShowsCode p y.state.code) → TakesDirectly y.state.pages [] p → Walked turn left old passed x y →
    Walked turn left old passed x (roomier_at y p shows)
walked_still turn left old passed x y p shows still u = record {
  under = under_waited turn left x y y.hart p shows refl still u.under;
  harts = u.harts ∙ ap (λ (m : Memory). passed ++ reserving_turns_from (words_of x.state.pages.memory.code) turn.round turn.hart left (record (reserving_turn_at y) { bytes = m.bytes })) (sym still.memory);
}

harts_ended : (turn : Turn) (left : ℕ) (old passed : List Hart) (x y : At) (z : Came) → 0 < left → is_some y.hart.stop ≡ false →
    ((o : SerialOutcome Hart ConsoleState) (f : ReservingTurn Hart ConsoleState → List Hart) → by_reserving_answer turn.hart z.answer (reserving_turn_at y) o f ≡ o.hart ∷ []) → IsNext turn y z →
    Walked turn left old passed x y → passed ++ z.hart ∷ [] ≡ old ++ harts_left turn x turn.budget x
harts_ended turn left old passed x y z some on ends n u =
    sym (u.harts
    ∙ ap (λ (hs : List Hart). passed ++ hs) (next_left turn x y left z some on u.under.keeps.code n ∙ ends (outcome_at turn y) _ ∙ ap (λ (h : Hart). h ∷ []) (sym n.1.hart)))

harts_waiting : (turn : Turn) (left : ℕ) (old passed : List Hart) (x y : At) (z : Came) → 0 < left → is_some y.hart.stop ≡ false → z.answer ≡ Waits → IsNext turn y z →
    Walked turn left old passed x y → passed ++ z.hart ∷ [] ≡ old ++ harts_left turn x turn.budget x
harts_waiting turn left old passed x y z some on is n u = harts_ended turn left old passed x y z some on (λ o f. ap (λ (b : Stepped). by_reserving_answer turn.hart b (reserving_turn_at y) o f) is) n u

harts_stopped : (turn : Turn) (left : ℕ) (old passed : List Hart) (x y : At) (z : Came) (code : ℕ) → 0 < left → is_some y.hart.stop ≡ false → z.answer ≡ Stopped code → IsNext turn y z →
    Walked turn left old passed x y → passed ++ z.hart ∷ [] ≡ old ++ harts_left turn x turn.budget x
harts_stopped turn left old passed x y z code some on is n u = harts_ended turn left old passed x y z some on (λ o f. ap (λ (b : Stepped). by_reserving_answer turn.hart b (reserving_turn_at y) o f) is) n u

harts_off : (turn : Turn) (left : ℕ) (old passed : List Hart) (x y : At) → 0 < left → is_some y.hart.stop ≡ true → Walked turn left old passed x y → passed ++ y.hart ∷ [] ≡ old ++ harts_left turn x turn.budget x
harts_off turn left old passed x y some off u = sym (u.harts ∙ ap (λ (hs : List Hart). passed ++ hs) (stopped_left turn x y left some off))

harts_over : (turn : Turn) (left : ℕ) (old passed : List Hart) (x y : At) → left ≡ 0 → Walked turn left old passed x y → passed ++ y.hart ∷ [] ≡ old ++ harts_left turn x turn.budget x
harts_over turn left old passed x y none u = sym (u.harts ∙ ap (λ (hs : List Hart). passed ++ hs) (none_left turn x y left none))

-- the whole turn, whose log is empty at its beginning
walks : (turn : Turn) (old passed : List Hart) (x y : At) → x.state.log.current ≡ [] → passed ++ y.hart ∷ [] ≡ old ++ harts_left turn x turn.budget x → Ends turn x y →
    WalksTurn turn x.hart x.state old y.hart y.state passed
walks turn old passed x y began harts e = record {
  harts = harts
      ∙ ap (λ (l : List Access). old ++ reserving_turns_from (words_of x.state.pages.memory.code) turn.round turn.hart turn.budget (record (reserving_turn_at x) { log = l })) began;
  taken = e.taken;
  reservations = e.reservations;
}

-- ---- with a spare page before the next instruction

walked_more : (turn : Turn) (left : ℕ) (old passed more : List Hart) (x y : At) (p : Paged) (shows : ShowsCode p y.state.code) (z : Came) (l : Turns) (later : ShowsCode z.state.pages z.state.code) (a : Option Access) →
    0 < left → is_some y.hart.stop ≡ false → z.answer ≡ Done a → TakesDirectly y.state.pages [] p → IsNext turn (roomier_at y p shows) z →
    l.current ≡ z.state.log.current ++ option_to_list a → l.closed ≡ z.state.log.closed → z.state.log.room ≤ l.room + 1 → more ≡ passed ++ y.hart ∷ [] →
    Walked turn left old passed x y → Walked turn (left - 1) old more x (went z l later)
walked_more turn left old passed more x y p shows z l later a some on is still n log closed room pushed u =
    let u' = walked_still turn left old passed x y p shows still u in
    let y' = roomier_at y p shows in
    record {
      under = under_more turn left x y' z l later a some on is n log closed room u'.under;
      harts = harts_more turn left old passed more x y' z l a some on is n log pushed u';
    }

walks_waiting : (turn : Turn) (left : ℕ) (old passed : List Hart) (x y : At) (p : Paged) (shows : ShowsCode p y.state.code) (z : Came) →
    0 < left → is_some y.hart.stop ≡ false → x.state.log.current ≡ [] → z.answer ≡ Waits → TakesDirectly y.state.pages [] p → IsNext turn (roomier_at y p shows) z →
    Walked turn left old passed x y → WalksTurn turn x.hart x.state old z.hart z.state passed
walks_waiting turn left old passed x y p shows z some on began is still n u =
    let u' = walked_still turn left old passed x y p shows still u in
    let y' = roomier_at y p shows in
    walks turn old passed x (record { hart = z.hart; state = z.state }) began
    (harts_waiting turn left old passed x y' z some on is n u') (ends_waiting turn left x y' z some on began is n u'.under)

walks_stopped : (turn : Turn) (left : ℕ) (old passed : List Hart) (x y : At) (p : Paged) (shows : ShowsCode p y.state.code) (z : Came) (code : ℕ) →
    0 < left → is_some y.hart.stop ≡ false → x.state.log.current ≡ [] → z.answer ≡ Stopped code → TakesDirectly y.state.pages [] p → IsNext turn (roomier_at y p shows) z →
    Walked turn left old passed x y → WalksTurn turn x.hart x.state old z.hart z.state passed
walks_stopped turn left old passed x y p shows z code some on began is still n u =
    let u' = walked_still turn left old passed x y p shows still u in
    let y' = roomier_at y p shows in
    walks turn old passed x (record { hart = z.hart; state = z.state }) began
    (harts_stopped turn left old passed x y' z code some on is n u') (ends_stopped turn left x y' z code some on began is n u'.under)

-- ---- shown to a visitor, of whom that is what it knows

-- a turn of which that many instructions are done has come to y: the harts before them were shown
pub record Shows {V : Type 0} (knows : V → V → List (List Hart) → List Hart → Type 0) (turn : Turn) (done : ℕ) (v w : V) (x y : At) : Type 0 where
  pub along : List Hart
  pub count : length along ≡ done
  pub walked : Walked turn (turn.budget - done) [] along x y
  pub shown : (first : V) (turns : List (List Hart)) → length turns ≡ turn.hart → knows first v turns [] → knows first w turns along

pub shows_first : {V : Type 0} (knows : V → V → List (List Hart) → List Hart → Type 0) (turn : Turn) (v : V) (x : At) → Shows knows turn 0 v v x x
shows_first knows turn v x =
    let all : turn.budget ≡ turn.budget - 0 = omega arith in
    record {
      along = [];
      count = refl;
      walked = subst (λ (n : ℕ). Walked turn n [] [] x x) all (record { under = under_first turn x; harts = refl });
      shown = λ first turns e k. k;
    }

module _ {V : Type 0} (knows : V → V → List (List Hart) → List Hart → Type 0) (turn : Turn) (done : ℕ) (v w : V) (x y : At) (u : Shows knows turn done v w x y) where
  pub shows_more : (w' : V) (p : Paged) (shows : ShowsCode p y.state.code) (z : Came) (l : Turns) (later : ShowsCode z.state.pages z.state.code) (a : Option Access) →
      done < turn.budget → is_some y.hart.stop ≡ false → z.answer ≡ Done a → TakesDirectly y.state.pages [] p → IsNext turn (roomier_at y p shows) z →
      l.current ≡ z.state.log.current ++ option_to_list a → l.closed ≡ z.state.log.closed → z.state.log.room ≤ l.room + 1 →
      ((first : V) (turns : List (List Hart)) (along : List Hart) → length turns ≡ turn.hart → length along ≡ done → knows first w turns along → knows first w' turns (along ++ y.hart ∷ [])) →
      Shows knows turn (done + 1) v w' x (went z l later)
  shows_more w' p shows z l later a some on is still n log closed room takes =
      let next : (turn.budget - done) - 1 ≡ turn.budget - (done + 1) = omega arith in
      let more : List Hart = u.along ++ y.hart ∷ [] in
      record {
        along = more;
        count = omega (arith, length-append u.along (y.hart ∷ []), u.count);
        walked = subst (λ (k : ℕ). Walked turn k [] more x (went z l later)) next
            (walked_more turn (turn.budget - done) [] u.along more x y p shows z l later a (omega (arith, some)) on is still n log closed room refl u.walked);
        shown = λ first turns e k. takes first turns u.along e u.count (u.shown first turns e k);
      }

  turn_shown : (g : Hart) (t : SharedState) → WalksTurn turn x.hart x.state [] g t u.along → ShowsTurn knows turn x.hart x.state v done g t w
  turn_shown g t walks = record { along = u.along; count = u.count; walks = walks; shown = u.shown }

  pub shows_off : x.state.log.current ≡ [] → done < turn.budget → is_some y.hart.stop ≡ true → ShowsTurn knows turn x.hart x.state v done y.hart y.state w
  shows_off began some off =
      let left : 0 < turn.budget - done = omega (arith, some) in
      turn_shown y.hart y.state
      (walks turn [] u.along x y began (harts_off turn (turn.budget - done) [] u.along x y left off u.walked) (ends_off turn (turn.budget - done) x y left off began u.walked.under))

  pub shows_waiting : (p : Paged) (shows : ShowsCode p y.state.code) (z : Came) → x.state.log.current ≡ [] → done < turn.budget → is_some y.hart.stop ≡ false → z.answer ≡ Waits →
      TakesDirectly y.state.pages [] p → IsNext turn (roomier_at y p shows) z → ShowsTurn knows turn x.hart x.state v done z.hart z.state w
  shows_waiting p shows z began some on is still n =
      turn_shown z.hart z.state (walks_waiting turn (turn.budget - done) [] u.along x y p shows z (omega (arith, some)) on began is still n u.walked)

  pub shows_stopped : (p : Paged) (shows : ShowsCode p y.state.code) (z : Came) (code : ℕ) → x.state.log.current ≡ [] → done < turn.budget → is_some y.hart.stop ≡ false → z.answer ≡ Stopped code →
      TakesDirectly y.state.pages [] p → IsNext turn (roomier_at y p shows) z → ShowsTurn knows turn x.hart x.state v done z.hart z.state w
  shows_stopped p shows z code began some on is still n =
      turn_shown z.hart z.state (walks_stopped turn (turn.budget - done) [] u.along x y p shows z code (omega (arith, some)) on began is still n u.walked)

  pub shows_over : x.state.log.current ≡ [] → turn.budget ≤ done → ShowsTurn knows turn x.hart x.state v done y.hart y.state w
  shows_over began all =
      let left : turn.budget - done ≡ 0 = omega (arith, all) in
      turn_shown y.hart y.state
      (walks turn [] u.along x y began (harts_over turn (turn.budget - done) [] u.along x y left u.walked) (ends_over turn (turn.budget - done) x y left began u.walked.under))

-- ---- turn by turn

no_turns : (turn : Turn) (s : SharedState) (old : List (List Hart)) → AddsTurns turn [] s old old
no_turns turn s old logs m [] c a eb ec et = sym (append-nil old)
no_turns turn s old logs m (r ∷ rs) c a eb ec et = absurd a

-- the harts along the first turn
abbrev pub first_harts : Turn → HartEnd → SharedState → List Hart
first_harts turn o s = reserving_turns_from (words_of s.pages.memory.code) turn.round turn.hart turn.budget (reserving_turn_begun o.hart s.pages.memory.bytes s.console.console s.reservations)

one_more : (turn : Turn) (o : HartEnd) (os : List HartEnd) (s s' : SharedState) (k : Turns) (h : Hart) (old new : List (List Hart)) →
    TakesTurn (turn_done (turn_for turn o) o.hart s) h s s' → AddsTurns (next_turn turn) os (record s' { log = k }) (old ++ first_harts (turn_for turn o) o s ∷ []) new → AddsTurns turn (o ∷ os) s old new
one_more turn o os s s' k h old new x y logs m [] c a eb ec et = absurd a
one_more turn o os s s' k h old new x y logs m (r ∷ rs) c a eb ec et =
    let n = turn.round in
    let first = turn.hart in
    let budget = turn.budget in
    let code : List Range = s.pages.memory.code in
    let W = words_of code in
    let begun : Bool → Hart → List ℕ → ConsoleState → List (Option Span) → ReservingTurn Hart ConsoleState = λ b g bs e reservations. reserving_turn_from W n first (cond b budget 0) (reserving_turn_begun g bs e reservations) in
    let along : Bool → Hart → List ℕ → ConsoleState → List (Option Span) → List Hart = λ b g bs e reservations. reserving_turns_from W n first (cond b budget 0) (reserving_turn_begun g bs e reservations) in
    let D : ReservingTurn Hart ConsoleState = reserving_turn_of W budget n c first r.last.hart r.waits in
    let same : turn_done (turn_for turn o) o.hart s ≡ D =
    ap (λ (b : Bool). begun b o.hart s.pages.memory.bytes s.console.console s.reservations) (waits_is a.0)
    ∙ ap (λ (g : Hart). begun r.waits g s.pages.memory.bytes s.console.console s.reservations) (hart_is a.0)
    ∙ ap (λ (bs : List ℕ). begun r.waits r.last.hart bs s.console.console s.reservations) (sym eb)
    ∙ ap (λ (e : ConsoleState). begun r.waits r.last.hart c.bytes e s.reservations) (sym ec)
    ∙ ap (λ (reservations : List (Option Span)). begun r.waits r.last.hart c.bytes c.console reservations) (sym et) in
    let harts : first_harts (turn_for turn o) o s ≡ along r.waits r.last.hart c.bytes c.console c.reservations =
    ap (λ (b : Bool). along b o.hart s.pages.memory.bytes s.console.console s.reservations) (waits_is a.0)
    ∙ ap (λ (g : Hart). along r.waits g s.pages.memory.bytes s.console.console s.reservations) (hart_is a.0)
    ∙ ap (λ (bs : List ℕ). along r.waits r.last.hart bs s.console.console s.reservations) (sym eb)
    ∙ ap (λ (e : ConsoleState). along r.waits r.last.hart c.bytes e s.reservations) (sym ec)
    ∙ ap (λ (reservations : List (Option Span)). along r.waits r.last.hart c.bytes c.console reservations) (sym et) in
    let x' = subst (λ (z : ReservingTurn Hart ConsoleState). TakesTurn z h s s') same x in
    let z = y logs m rs (reserving_phase_joined c D) a.1 (sym x'.pages.bytes) (sym x'.console) (sym x'.reservations) in
    let next : first + 1 ≡ suc first = omega arith in
    let later : List (List Hart) = turns_in_reserving_phase W budget n (suc first) rs (reserving_phase_joined c D) in
    z
    ∙ ap (λ (d : List Range). (old ++ first_harts (turn_for turn o) o s ∷ []) ++ turns_in_reserving_phase (words_of d) budget n (first + 1) rs (reserving_phase_joined c D)) x'.pages.code
    ∙ ap (λ (j : ℕ). (old ++ first_harts (turn_for turn o) o s ∷ []) ++ turns_in_reserving_phase W budget n j rs (reserving_phase_joined c D)) next
    ∙ append_assoc old (first_harts (turn_for turn o) o s ∷ []) later
    ∙ ap (λ (hs : List Hart). old ++ hs ∷ later) harts

-- by the first of a list

all_taken : (os : List HartEnd) → take (length os) os ≡ os
all_taken [] = refl
all_taken (o ∷ os) = ap (λ (x : List HartEnd). o ∷ x) (all_taken os)

rest_is : (o : HartEnd) (os : List HartEnd) → rest (o ∷ os) ≡ os
rest_is o os = let e : length (o ∷ os) - 1 ≡ length os = omega arith in ap (λ (n : ℕ). take n os) e ∙ all_taken os

none_added : (turn : Turn) (os : List HartEnd) (s : SharedState) (old : List (List Hart)) → length os < 1 → AddsTurns turn os s old old
none_added turn [] s old lt = no_turns turn s old
none_added turn (o ∷ os) s old lt = absurd (omega (arith, lt))

one_added : (turn of_first : Turn) (o : HartEnd) (os : List HartEnd) (s s' : SharedState) (k : Turns) (h : Hart) (passed : List Hart) (old more new : List (List Hart)) → 1 ≤ length os → o ≡ get_or os 0 o → of_first ≡ turn_for turn o →
    WalksTurn of_first o.hart s [] h s' passed → more ≡ old ++ (passed ++ h ∷ []) ∷ [] → AddsTurns (next_turn turn) (rest os) (record s' { log = k }) more new → AddsTurns turn os s old new
one_added turn of_first o [] s s' k h passed old more new some is e x pushed y = absurd (omega (arith, some))
one_added turn of_first o (v ∷ os) s s' k h passed old more new some is e x pushed y =
    let x1 = subst (λ (t : Turn). WalksTurn t o.hart s [] h s' passed) e x in
    let x2 : WalksTurn (turn_for turn v) v.hart s [] h s' passed = subst (λ (z : HartEnd). WalksTurn (turn_for turn z) z.hart s [] h s' passed) is x1 in
    one_more turn v os s s' k h old new x2.taken
    (subst (λ (hss : List (List Hart)). AddsTurns (next_turn turn) os (record s' { log = k }) hss new) (pushed ∙ ap (λ (hs : List Hart). old ++ hs ∷ []) x2.harts)
    (subst (λ (q : List HartEnd). AddsTurns (next_turn turn) q (record s' { log = k }) more new) (rest_is v os) y))

-- with other room for the output and the accesses
added_roomed : (turn : Turn) (os : List HartEnd) (s : SharedState) (d : Roomed) (k : Turns) (shows : ShowsCode s.pages s.code) (old new : List (List Hart)) → d.console ≡ s.console.console →
    AddsTurns turn os (record s { shows = shows; console = d; log = k }) old new → AddsTurns turn os s old new
added_roomed turn os s d k shows old new same adds logs m rs c a eb ec et = adds logs m rs c a eb (ec ∙ sym same) et

one_roomed : (turn of_first : Turn) (o : HartEnd) (os : List HartEnd) (s s' : SharedState) (d : Roomed) (l k : Turns) (shows : ShowsCode s.pages s.code) (h : Hart) (none passed : List Hart) (old more new : List (List Hart)) →
    1 ≤ length os → o ≡ get_or os 0 o → of_first ≡ turn_for turn o → d.console ≡ s.console.console → none ≡ [] → WalksTurn of_first o.hart (record s { shows = shows; console = d; log = l }) none h s' passed →
    more ≡ old ++ (passed ++ h ∷ []) ∷ [] → AddsTurns (next_turn turn) (rest os) (record s' { log = k }) more new → AddsTurns turn os s old new
one_roomed turn of_first o os s s' d l k shows h none passed old more new some is e same empty x pushed y =
    let room : SharedState = record s { shows = shows; console = d; log = l } in
    let x' = subst (λ (hs : List Hart). WalksTurn of_first o.hart room hs h s' passed) empty x in
    added_roomed turn os s d l shows old new same (one_added turn of_first o os room s' k h passed old more new some is e x' pushed y)

-- onto those before
added_behind : (turn : Turn) (os : List HartEnd) (s : SharedState) (old along : List (List Hart)) → AddsTurns turn os s [] along → AddsTurns turn os s old (old ++ along)
added_behind turn os s old along adds logs m rs c a eb ec et = ap (λ (hss : List (List Hart)). old ++ hss) (adds logs m rs c a eb ec et)

pub none_shown : {V : Type 0} (knows : V → V → List (List Hart) → List Hart → Type 0) (turn : Turn) (os : List HartEnd) (s : SharedState) (v : V) → length os < 1 → ShowsTurns knows turn os s v v
none_shown knows turn os s v none = record {
  along = [];
  adds = none_added turn os s [] none;
  shown = λ first turns e k. subst (λ hss. knows first v hss []) (sym (append-nil turns)) k;
}

pub one_shown : {V : Type 0} (knows : V → V → List (List Hart) → List Hart → Type 0) (turn of_first : Turn) (o : HartEnd) (os : List HartEnd) (s s' : SharedState) (d : Roomed) (l k : Turns) (shows : ShowsCode s.pages s.code) (later : ShowsCode s'.pages s'.code) (h : Hart)
    (v w w' u : V) (n : ℕ) → 1 ≤ length os → o ≡ get_or os 0 o → of_first ≡ turn_for turn o → d.console ≡ s.console.console →
    ShowsTurn knows of_first o.hart (record s { shows = shows; console = d; log = l }) v n h s' w →
    ((first : V) (turns : List (List Hart)) (along : List Hart) → length turns ≡ turn.hart → length along ≡ n → knows first w turns along → knows first w' (turns ++ (along ++ h ∷ []) ∷ []) []) →
    ShowsTurns knows (next_turn turn) (rest os) (record s' { shows = later; log = k }) w' u → ShowsTurns knows turn os s v u
one_shown knows turn of_first o os s s' d l k shows later h v w w' u n some is e same x takes y =
    let here : List Hart = x.along ++ h ∷ [] in
    let number : of_first.hart ≡ turn.hart = ap (λ (t : Turn). t.hart) e in
    record {
      along = here ∷ y.along;
      adds = one_roomed turn of_first o os s s' d l k shows h [] x.along [] (here ∷ []) (here ∷ y.along) some is e same refl x.walks refl (added_behind (next_turn turn) (rest os) (record s' { log = k }) (here ∷ []) y.along y.adds);
      shown = λ first turns many known.
          subst (λ hss. knows first u hss []) (append_assoc turns (here ∷ []) y.along)
          (y.shown first (turns ++ here ∷ []) (omega (arith, length-append turns (here ∷ []), many)) (takes first turns x.along many x.count (x.shown first turns (many ∙ sym number) known)));
    }

-- ---- after a commit

pub committed_turns : (logs : Bool) (turn : Turn) (round budget : ℕ) (old : Shared) (rs : List (HartRound Hart)) (os : List HartEnd) (ready : Paged) (start : SharedState) (hss : List (List Hart)) →
    turn ≡ record { hart = 0; round = round; budget = budget } → AreEndsOf logs old.memory rs os → ready.memory ≡ old.memory → Committed rs ready start.pages old.reservations start.reservations →
    start.console.console ≡ old.console → AddsTurns turn os start [] hss →
    hss ≡ turns_in_reserving_phase (words_of old.memory.code) budget round 0 rs (ready_for_turns old rs)
committed_turns logs turn round budget old rs os ready start hss first a same committed console adds =
    let m = old.memory in
    let memory : start.pages.memory ≡ stored m (all_stores rs) = committed.memory ∙ ap (λ (x : Memory). stored x (all_stores rs)) same in
    let c : ReservingPhase Hart ConsoleState = ready_for_turns old rs in
    let added = (subst (λ (t : Turn). AddsTurns t os start [] hss) first adds) logs m rs c a (sym (ap (λ (x : Memory). x.bytes) memory)) (sym console) (sym committed.reservations) in
    let code : start.pages.memory.code ≡ m.code = ap (λ (x : Memory). x.code) memory in
    added ∙ ap (λ (z : List Range). turns_in_reserving_phase (words_of z) budget round 0 rs c) code

-- ---- in the next round

pub round_turns : (plan : Planned) (n : ℕ) (hs : List Hart) (p : Paged) (t : List (Option Span)) (c : ConsoleState) (es : List Event) →
    IsBytes p.memory.bytes → Tied t es → length t ≡ length hs →
    (let rs = hart_rounds (words_of p.memory.code) p.memory.bytes (quotas_of plan n) hs in
    turns_in_reserving_phase (words_of p.memory.code) plan.budget (n + 1) 0 rs (ready_for_turns (record { memory = p.memory; reservations = t; console = c }) rs))
    ≡ turns_in_round (words_of p.memory.code) plan.budget (quotas_of plan) (record { harts = hs; bytes = p.memory.bytes; console = c; trace = es; rounds = n })
round_turns plan n hs p t c es bytes tied size =
    round_harts (words_of p.memory.code) plan.budget (quotas_of plan) (record { state = record { harts = hs; bytes = p.memory.bytes; console = c; trace = es; rounds = n }; reservations = t }) (sound p.memory.code) bytes tied size
