-- The serial phase under way.
use Rattle.std.proofs.Common.{◌≡◌, ℕ, zero, suc, ◌+◌, ◌-◌, ◌<◌, ◌≤◌, inl, inr, List, [], ◌∷◌, ◌++◌, length, take, drop, set, get_or, true, refl, sym, ap, ◌∙◌, subst, arith, add-one, drop-cons, length-append}
use Rattle.std.proofs.Math.Seq.{take-suc-set}
use Rattle.std.proofs.lemmas.List.{drop_all, take_all}
use Rattle.pages.specs.declared.access.Range.{Range}
use Rattle.pages.specs.Paged.{Paged, is_page_ready}
use Rattle.round_schedule.specs.declared.access.Access.{Access}
use Rattle.round_schedule.specs.ReservingTurn.{ReservingPhase, reserving_phase_from, reserving_phase_joined, reserving_turn_of, reserving_turn_from}
use Rattle.round_schedule.specs.Schedule.{HartRound}
use Rattle.hart_step.specs.declared.hart.Hart.{Hart}
use Rattle.hart_step.specs.Console.{ConsoleState}
use Rattle.hart_step.specs.Room.{HasSpares}
use Rattle.hart_step.specs.Words.{words_of}
use Rattle.serial_phase.specs.declared.shared.SerialRound.{SerialRound}
use Rattle.serial_phase.specs.declared.shared.SharedState.{SharedState}
use Rattle.serial_phase.specs.Phase.{TakesTurns, turn_done, turn_of, serial_done, waiting_rounds, is_waiting, budget_of, budget_from, budget_of_all}
use Rattle.serial_phase.specs.Roomed.{Roomed, HasRoom}
use Rattle.serial_phase.specs.Turns.{Turns}
use Rattle.serial_phase.specs.UnderWay.{At}
use Rattle.serial_phase.proofs.ShownCode.{ShowsCode}
use Rattle.serial_phase.proofs.TurnUnderWay.{Ends}

-- all harts with what they share
pub record Group : Type 0 where
  pub harts : List Hart
  pub state : SharedState

abbrev reserving_phase_at : ℕ → Group → ReservingPhase Hart ConsoleState
reserving_phase_at i y = record {
  harts = take i y.harts;
  bytes = y.state.pages.memory.bytes;
  console = y.state.console.console;
  reservations = y.state.reservations;
  log = y.state.log.closed;
}

-- what the turns of harts i, i + 1, .. of so many may do
abbrev to_come : SerialRound → ℕ → ℕ → ℕ
to_come phase i count = budget_from phase.waiting phase.budget i (count - i)

-- harts 0 to i - 1 had their turns, in a phase that began at x and is at y
pub record Serving (phase : SerialRound) (i : ℕ) (x y : Group) : Type 0 where
  pub going : reserving_phase_from (words_of x.state.pages.memory.code) phase.budget phase.round i (waiting_rounds phase.waiting i (drop i x.harts)) (reserving_phase_at i y) ≡ serial_done phase x.harts x.state
  pub rest : drop i y.harts ≡ drop i x.harts
  pub code : y.state.pages.memory.code ≡ x.state.pages.memory.code
  pub count : length y.state.pages.ready ≡ length x.state.pages.ready
  pub stays : (page : ℕ) → is_page_ready x.state.pages page ≡ true → is_page_ready y.state.pages page ≡ true
  pub spares : HasSpares (to_come phase i (length x.harts)) y.state.pages
  pub room : HasRoom (to_come phase i (length x.harts)) y.state.console
  pub log : to_come phase i (length x.harts) ≤ y.state.log.room
  pub turns : length y.state.log.closed ≡ i
  pub current : y.state.log.current ≡ []
  pub size : length y.state.reservations ≡ length x.state.reservations
  pub decoded : y.state.code ≡ x.state.code

-- what the phase needs when it begins
pub record Begins (phase : SerialRound) (x : Group) : Type 0 where
  pub pages : HasSpares (budget_of_all phase x.harts) x.state.pages
  pub console : HasRoom (budget_of_all phase x.harts) x.state.console
  pub log : budget_of_all phase x.harts ≤ x.state.log.room
  pub closed : x.state.log.closed ≡ []
  pub current : x.state.log.current ≡ []

pub serving_first : (phase : SerialRound) (x : Group) → Begins phase x → Serving phase 0 x x
serving_first phase x b =
    let whole : length x.harts ≡ length x.harts - 0 = omega arith in
    let w = words_of x.state.pages.memory.code in
    record {
      going = ap (λ (l : List (List Access)). reserving_phase_from w phase.budget phase.round 0 (waiting_rounds phase.waiting 0 x.harts) (record (reserving_phase_at 0 x) { log = l })) b.closed;
      rest = refl;
      code = refl;
      count = refl;
      stays = λ page p. p;
      spares = subst (λ (m : ℕ). HasSpares (budget_from phase.waiting phase.budget 0 m) x.state.pages) whole b.pages;
      room = subst (λ (m : ℕ). HasRoom (budget_from phase.waiting phase.budget 0 m) x.state.console) whole b.console;
      log = subst (λ (m : ℕ). budget_from phase.waiting phase.budget 0 m ≤ x.state.log.room) whole b.log;
      turns = ap length b.closed;
      current = b.current;
      size = refl;
      decoded = refl;
    }

need_split : (phase : SerialRound) (i count : ℕ) → i < count → to_come phase i count ≡ budget_of phase.waiting i phase.budget + to_come phase (i + 1) count
need_split phase i count low =
    let less : count - i ≡ suc (count - (i + 1)) = omega arith in
    ap (budget_from phase.waiting phase.budget i) less
    ∙ ap (λ (j : ℕ). budget_of phase.waiting i phase.budget + budget_from phase.waiting phase.budget j (count - (i + 1))) (sym (add-one i))

fewer : (m k : ℕ) (p : Paged) → k ≤ m → HasSpares m p → HasSpares k p
fewer m k p less h = omega arith

fewer_room : (m k : ℕ) (c : Roomed) → k ≤ m → HasRoom m c → HasRoom k c
fewer_room m k c less (inl h) = inl (omega arith)
fewer_room m k c less (inr h) = inr h

-- what the turn of hart i needs
pub record Needs (budget : ℕ) (s : SharedState) : Type 0 where
  pub pages : HasSpares budget s.pages
  pub console : HasRoom budget s.console
  pub log : budget ≤ s.log.room

pub needs : (phase : SerialRound) (i : ℕ) (x y : Group) → i < length x.harts → Serving phase i x y → Needs (budget_of phase.waiting i phase.budget) y.state
needs phase i x y low s =
    let need = need_split phase i (length x.harts) low in
    let all = to_come phase i (length x.harts) in
    let budget = budget_of phase.waiting i phase.budget in
    record {
      pages = fewer all budget y.state.pages (omega (arith, need)) s.spares;
      console = fewer_room all budget y.state.console (omega (arith, need)) s.room;
      log = omega (arith, need, s.log);
    }

drop_next : (hs : List Hart) (i : ℕ) (d : Hart) → i < length hs → drop i hs ≡ get_or hs i d ∷ drop (i + 1) hs
drop_next hs i d low = drop-cons hs i d low ∙ ap (λ (j : ℕ). get_or hs i d ∷ drop j hs) (sym (add-one i))

drop_set : (hs : List Hart) (i : ℕ) (g : Hart) → drop (suc i) (set hs i g) ≡ drop (suc i) hs
drop_set [] i g = refl
drop_set (h ∷ hs) zero g = refl
drop_set (h ∷ hs) (suc i) g = drop_set hs i g

tail_of : (h g : Hart) (xs ys : List Hart) → h ∷ xs ≡ g ∷ ys → (h ≡ g) × (xs ≡ ys)
tail_of h g xs ys e = (cc, cc)

-- the turn that was closed in the log
pub record Closes (l k : Turns) : Type 0 where
  pub closed : k.closed ≡ l.closed ++ l.current ∷ []
  pub current : k.current ≡ []
  pub room : k.room ≡ l.room

-- the harts after hart i had its turn as z, with this log
abbrev pub turned : ℕ → Group → (z : At) → Turns → ShowsCode z.state.pages z.state.code → Group
turned i y z l shows = record { harts = set y.harts i z.hart; state = record z.state { log = l; shows = shows } }

pub serving_more : (phase : SerialRound) (i : ℕ) (x y : Group) (h : Hart) (z : At) (l : Turns) (shows : ShowsCode z.state.pages z.state.code) → i < length x.harts → length y.harts ≡ length x.harts → h ≡ get_or y.harts i h →
    Ends (turn_of phase i) (record { hart = h; state = y.state }) z → Closes z.state.log l → Serving phase i x y → Serving phase (i + 1) x (turned i y z l shows)
serving_more phase i x y h z l shows low same_length here e closes s =
    let total = length x.harts in
    let need = need_split phase i total low in
    let b = budget_of phase.waiting i phase.budget in
    let whole : get_or y.harts i h ∷ drop (i + 1) y.harts ≡ get_or x.harts i h ∷ drop (i + 1) x.harts = sym (drop_next y.harts i h (omega arith)) ∙ s.rest ∙ drop_next x.harts i h low in
    let parts = tail_of _ _ _ _ whole in
    let same : get_or x.harts i h ≡ h = sym parts.0 ∙ sym here in
    let w = words_of x.state.pages.memory.code in
    let reserving_turn : turn_done (turn_of phase i) h y.state ≡ reserving_turn_of w phase.budget phase.round (reserving_phase_at i y) i h (is_waiting phase.waiting i) =
    ap (λ (code : List Range). reserving_turn_from (words_of code) phase.round i b (record { hart = h; bytes = y.state.pages.memory.bytes; console = y.state.console.console; reservations = y.state.reservations; log = [] })) s.code in
    let front : take (i + 1) (set y.harts i z.hart) ≡ take i y.harts ++ z.hart ∷ [] = ap (λ (m : ℕ). take m (set y.harts i z.hart)) (add-one i) ∙ take-suc-set y.harts i z.hart (omega arith) in
    let d = turn_done (turn_of phase i) h y.state in
    let harts : take (i + 1) (set y.harts i z.hart) ≡ take i y.harts ++ d.hart ∷ [] = front ∙ ap (λ (g : Hart). take i y.harts ++ g ∷ []) e.taken.hart in
    let log : l.closed ≡ y.state.log.closed ++ d.log ∷ [] = closes.closed ∙ ap (λ (ls : List (List Access)). ls ++ z.state.log.current ∷ []) e.taken.closed ∙ ap (λ (xs : List Access). y.state.log.closed ++ xs ∷ []) e.taken.log in
    let parted : reserving_phase_at (i + 1) (turned i y z l shows) ≡ reserving_phase_joined (reserving_phase_at i y) d = cc (harts, e.taken.pages.bytes, e.taken.console, e.taken.reservations, log) in
    let joined : reserving_phase_at (i + 1) (turned i y z l shows) ≡ reserving_phase_joined (reserving_phase_at i y) (reserving_turn_of w phase.budget phase.round (reserving_phase_at i y) i h (is_waiting phase.waiting i)) =
    parted ∙ ap (reserving_phase_joined (reserving_phase_at i y)) reserving_turn in
    let rounds : waiting_rounds phase.waiting i (drop i x.harts) ≡ waiting_rounds phase.waiting i (h ∷ drop (i + 1) x.harts) =
    ap (waiting_rounds phase.waiting i) (drop_next x.harts i h low ∙ ap (λ (g : Hart). g ∷ drop (i + 1) x.harts) same) in
    record {
      going =
          ap (λ (m : ℕ). reserving_phase_from w phase.budget phase.round m (waiting_rounds phase.waiting m (drop (i + 1) x.harts)) (reserving_phase_at (i + 1) (turned i y z l shows))) (add-one i)
          ∙ ap (reserving_phase_from w phase.budget phase.round (suc i) (waiting_rounds phase.waiting (suc i) (drop (i + 1) x.harts))) joined
          ∙ ap (λ (rs : List (HartRound Hart)). reserving_phase_from w phase.budget phase.round i rs (reserving_phase_at i y)) (sym rounds)
          ∙ s.going;
      rest = ap (λ (m : ℕ). drop m (set y.harts i z.hart)) (add-one i) ∙ drop_set y.harts i z.hart ∙ ap (λ (m : ℕ). drop m y.harts) (sym (add-one i)) ∙ parts.1;
      code = e.taken.pages.code ∙ s.code;
      count = e.taken.pages.count ∙ s.count;
      stays = λ page p. e.taken.pages.stays page (s.stays page p);
      spares = e.pages (to_come phase (i + 1) total) (fewer (to_come phase i total) (to_come phase (i + 1) total + b) y.state.pages (omega (arith, need)) s.spares);
      room = e.console (to_come phase (i + 1) total) (fewer_room (to_come phase i total) (to_come phase (i + 1) total + b) y.state.console (omega (arith, need)) s.room);
      log = omega (arith, need, s.log, e.log, closes.room);
      turns = ap length closes.closed ∙ length-append z.state.log.closed (z.state.log.current ∷ []) ∙ ap (λ (m : ℕ). m + 1) (ap length e.taken.closed ∙ s.turns);
      current = closes.current;
      size = e.reservations ∙ s.size;
      decoded = e.code ∙ s.decoded;
    }

pub serving_over : (phase : SerialRound) (i : ℕ) (x y : Group) → length y.harts ≡ length x.harts → length x.harts ≤ i → Serving phase i x y → TakesTurns (serial_done phase x.harts x.state) y.harts x.state y.state
serving_over phase i x y same_length over s =
    let none : drop i x.harts ≡ [] = drop_all i x.harts over in
    let all : take i y.harts ≡ y.harts = take_all i y.harts (omega arith) in
    let w = words_of x.state.pages.memory.code in
    let same : reserving_phase_at i y ≡ serial_done phase x.harts x.state =
    ap (λ (hs : List Hart). reserving_phase_from w phase.budget phase.round i (waiting_rounds phase.waiting i hs) (reserving_phase_at i y)) (sym none) ∙ s.going in
    record {
      harts = sym all ∙ ap (λ (c : ReservingPhase Hart ConsoleState). c.harts) same;
      pages = record { bytes = ap (λ (c : ReservingPhase Hart ConsoleState). c.bytes) same; code = s.code; count = s.count; stays = s.stays };
      reservations = ap (λ (c : ReservingPhase Hart ConsoleState). c.reservations) same;
      console = ap (λ (c : ReservingPhase Hart ConsoleState). c.console) same;
      log = ap (λ (c : ReservingPhase Hart ConsoleState). c.log) same;
    }
