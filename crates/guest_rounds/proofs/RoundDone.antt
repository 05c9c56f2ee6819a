-- From the parts of a round to the round.
use Rattle.std.proofs.Common.{◌≡◌, ℕ, zero, suc, ◌+◌, ◌*◌, ◌/◌, ◌%◌, ◌^◌, ◌<◌, ◌≤◌, ◌==◌, List, [], ◌∷◌, ◌++◌, length, get_or, min, Bool, true, false, cond, Option, Some, None, refl, sym, ap, ◌∙◌, subst, arith, append_assoc, length-append}
use Rattle.std.specs.Prelude.{option_to_list}
use Rattle.std.proofs.Math.Nat.{div-div-eq-div-mul, div-one, zero-div, pow-succ'}
use Rattle.pages.specs.declared.access.Range.{Range}
use Rattle.pages.specs.Memory.{Memory, after, stored}
use Rattle.pages.specs.Paged.{Paged, count_unready}
use Rattle.round_schedule.specs.declared.access.Access.{Access}
use Rattle.round_schedule.specs.declared.access.Stepped.{Stepped}
use Rattle.round_schedule.specs.declared.access.Stepped.TheVariants.{Done, Waits, Stopped}
use Rattle.round_schedule.specs.declared.event.Event.{Event}
use Rattle.round_schedule.specs.declared.event.Phase.TheVariants.{Parallel}
use Rattle.round_schedule.specs.declared.span.Span.{Span}
use Rattle.round_schedule.specs.ByReservations.{Reserving, reserving_round, committed_reservations}
use Rattle.round_schedule.specs.ReservingTurn.{ReservingTurn, ReservingPhase, updated_by, reserving_turn_from, reserving_turn_taken, reserving_turn_next, reserving_turn_of, reserving_phase_from, reserving_phase_joined, log_events}
use Rattle.round_schedule.specs.Events.{events_of}
use Rattle.round_schedule.specs.Schedule.{State, Words, HartRound, SerialOutcome, hart_rounds, all_stores, events_from, rest_of}
use Rattle.commit_phase.specs.Commit.{Committed}
use Rattle.round_planner.specs.Quotas.{Planned, quotas_of}
use Rattle.hart_step.specs.declared.hart.Hart.{Hart}
use Rattle.hart_step.specs.Console.{ConsoleState}
use Rattle.hart_step.specs.Room.{HasSpares}
use Rattle.hart_step.specs.Words.{words_of}
use Rattle.serial_phase.specs.Phase.{TakesTurns, serial_done, waiting_rounds, is_waiting, budget_of, budget_from}
use Rattle.serial_phase.specs.declared.shared.SerialRound.{SerialRound}
use Rattle.serial_phase.specs.declared.shared.SharedState.{SharedState}
use Rattle.serial_phase.specs.Turns.{Turns, count_log}
use Rattle.hart_rounds.specs.declared.hart_end.HartEnd.{HartEnd}
use Rattle.guest_rounds.specs.HartEnds.{AreEndsOf, mask_of, waits_of, harts_of, events_of_rounds, events_of_ends, round_events, turns_of, count_true}
use Rattle.guest_rounds.specs.Rounds.{count_waiting}
use Rattle.guest_rounds.specs.Guests.{Guest, Shared, guest_after, guest_of, guest_round, shared_of}
use Rattle.guest_rounds.specs.Rounds.{IsFinished}
use Rattle.guest_rounds.proofs.EndParts.{hart_is, log_is, waits_is}

-- ---- which harts wait

low_bit : (m : ℕ) (b : Bool) → ((2 * m + cond b 1 0) / 2 ^ 0 % 2 == 1) ≡ b
low_bit m true = let e : (2 * m + 1) / 2 ^ 0 % 2 ≡ 1 = ap (λ (x : ℕ). x % 2) (div-one (2 * m + 1)) ∙ omega arith in ap (λ (x : ℕ). x == 1) e
low_bit m false = let e : (2 * m + 0) / 2 ^ 0 % 2 ≡ 0 = ap (λ (x : ℕ). x % 2) (div-one (2 * m + 0)) ∙ omega arith in ap (λ (x : ℕ). x == 1) e

halved : (m x : ℕ) → x ≤ 1 → (2 * m + x) / 2 ≡ m
halved m x low = omega arith

bit_below : (b : Bool) → cond b 1 0 ≤ 1
bit_below true = omega arith
bit_below false = omega arith

next_power : (k : ℕ) → 2 ^ suc k ≡ 2 * 2 ^ k
next_power k = pow-succ' 2 k

pub waiting_bit : (bs : List Bool) (k : ℕ) → is_waiting (mask_of bs) k ≡ get_or bs k false
waiting_bit [] k = ap (λ (x : ℕ). x % 2 == 1) (zero-div (2 ^ k))
waiting_bit (b ∷ bs) zero = low_bit (mask_of bs) b
waiting_bit (b ∷ bs) (suc k) =
    ap (λ (x : ℕ). (2 * mask_of bs + cond b 1 0) / x % 2 == 1) (next_power k)
    ∙ ap (λ (x : ℕ). x % 2 == 1) (sym (div-div-eq-div-mul (2 * mask_of bs + cond b 1 0) 2 (2 ^ k)) ∙ ap (λ (x : ℕ). x / 2 ^ k) (halved (mask_of bs) (cond b 1 0) (bit_below b)))
    ∙ waiting_bit bs k

budgets : (w budget i : ℕ) (bs : List Bool) → ((k : ℕ) → k < length bs → is_waiting w (i + k) ≡ get_or bs k false) → budget_from w budget i (length bs) ≡ turns_of budget bs
budgets w budget i [] f = refl
budgets w budget i (b ∷ bs) f =
    let here : is_waiting w i ≡ b = ap (is_waiting w) (omega arith) ∙ f 0 (omega arith) in
    ap (λ (x : Bool). cond x budget 0 + budget_from w budget (suc i) (length bs)) here
    ∙ ap (λ (x : ℕ). cond b budget 0 + x) (budgets w budget (suc i) bs (λ k low. ap (is_waiting w) (omega arith) ∙ f (suc k) (omega arith)))

pub needed_is : (budget : ℕ) (bs : List Bool) → budget_from (mask_of bs) budget 0 (length bs) ≡ turns_of budget bs
needed_is budget bs = budgets (mask_of bs) budget 0 bs (λ k low. ap (is_waiting (mask_of bs)) (omega arith) ∙ waiting_bit bs k)

pub length-waits : (os : List HartEnd) → length (waits_of os) ≡ length os
length-waits [] = refl
length-waits (o ∷ os) = ap suc (length-waits os)

pub length-harts : (os : List HartEnd) → length (harts_of os) ≡ length os
length-harts [] = refl
length-harts (o ∷ os) = ap suc (length-harts os)

-- ---- the serial phase from what the rounds left

reserving_phase_same : (W : Words Hart ConsoleState) (budget n i w : ℕ) (logs : Bool) (m : Memory) (rs : List (HartRound Hart)) (os : List HartEnd) (s : ReservingPhase Hart ConsoleState) → AreEndsOf logs m rs os →
    ((k : ℕ) → k < length os → is_waiting w (i + k) ≡ get_or (waits_of os) k false) → reserving_phase_from W budget n i (waiting_rounds w i (harts_of os)) s ≡ reserving_phase_from W budget n i rs s
reserving_phase_same W budget n i w logs m [] [] s a f = refl
reserving_phase_same W budget n i w logs m (r ∷ rs) [] s a f = absurd a
reserving_phase_same W budget n i w logs m [] (o ∷ os) s a f = absurd a
reserving_phase_same W budget n i w logs m (r ∷ rs) (o ∷ os) s a f =
    let waits : is_waiting w i ≡ r.waits = ap (is_waiting w) (omega arith) ∙ f 0 (omega arith) ∙ (waits_is a.0) in
    reserving_phase_same W budget n (suc i) w logs m rs os (reserving_phase_joined s (reserving_turn_of W budget n s i o.hart (is_waiting w i))) a.1 (λ k low. ap (is_waiting w) (omega arith) ∙ f (suc k) (omega arith))
    ∙ ap (λ (h : Hart). reserving_phase_from W budget n (suc i) rs (reserving_phase_joined s (reserving_turn_of W budget n s i h (is_waiting w i)))) (hart_is a.0)
    ∙ ap (λ (b : Bool). reserving_phase_from W budget n (suc i) rs (reserving_phase_joined s (reserving_turn_of W budget n s i r.last.hart b))) waits

pub serial_is : (phase : SerialRound) (logs : Bool) (m : Memory) (rs : List (HartRound Hart)) (os : List HartEnd) (start : SharedState) → AreEndsOf logs m rs os → phase.waiting ≡ mask_of (waits_of os) →
    serial_done phase (harts_of os) start
    ≡ reserving_phase_from (words_of start.pages.memory.code) phase.budget phase.round 0 rs (record { harts = []; bytes = start.pages.memory.bytes; console = start.console.console; reservations = start.reservations; log = [] })
serial_is phase logs m rs os start a w =
    reserving_phase_same (words_of start.pages.memory.code) phase.budget phase.round 0 phase.waiting logs m rs os _ a
    (λ k low. ap (λ (x : ℕ). is_waiting x (0 + k)) w ∙ ap (is_waiting (mask_of (waits_of os))) (omega arith) ∙ waiting_bit (waits_of os) k)

-- where the accesses are kept, their events are those of the rounds
events_are : (m : Memory) (n i : ℕ) (rs : List (HartRound Hart)) (os : List HartEnd) → AreEndsOf true m rs os → events_of_ends n i os ≡ events_from n i rs
events_are m n i [] [] a = refl
events_are m n i (r ∷ rs) [] a = absurd a
events_are m n i [] (o ∷ os) a = absurd a
events_are m n i (r ∷ rs) (o ∷ os) a =
    ap (λ (as' : List Access). events_of n i Parallel as' ++ events_of_ends n (suc i) os) (log_is a.0)
    ∙ ap (λ (es : List Event). events_of n i Parallel r.last.accesses ++ es) (events_are m n (suc i) rs os a.1)

-- what holds of the events of rounds holds of those of what they left, where the accesses are kept, or else of any events
pub by_ends : (P : List Event → Type 0) (logs : Bool) → (logs ≡ false → (es fs : List Event) → P es → P fs) → (m : Memory) (n : ℕ) (rs : List (HartRound Hart)) (os : List HartEnd) (closed : List (List Access)) (es : List Event) →
    AreEndsOf logs m rs os → P (es ++ events_of_rounds n rs closed) → P (es ++ round_events n os closed)
by_ends P true any m n rs os closed es a p = subst (λ (fs : List Event). P (es ++ (fs ++ log_events n 0 closed))) (sym (events_are m n 0 rs os a)) p
by_ends P false any m n rs os closed es a p = any refl (es ++ events_of_rounds n rs closed) (es ++ round_events n os closed) p

-- and the other way round
pub by_rounds : (P : List Event → Type 0) (logs : Bool) → (logs ≡ false → (es fs : List Event) → P es → P fs) → (m : Memory) (n : ℕ) (rs : List (HartRound Hart)) (os : List HartEnd) (closed : List (List Access)) (es : List Event) →
    AreEndsOf logs m rs os → P (es ++ round_events n os closed) → P (es ++ events_of_rounds n rs closed)
by_rounds P true any m n rs os closed es a p = subst (λ (fs : List Event). P (es ++ (fs ++ log_events n 0 closed))) (events_are m n 0 rs os a) p
by_rounds P false any m n rs os closed es a p = any refl (es ++ round_events n os closed) (es ++ events_of_rounds n rs closed) p

-- ---- how long the log gets

added : (a : Option Access) → length (option_to_list a) ≤ 1
added None = omega arith
added (Some a) = omega arith

log_turned : (i k : ℕ) (y : Stepped) (p : ReservingTurn Hart ConsoleState) (o : SerialOutcome Hart ConsoleState) (f : ReservingTurn Hart ConsoleState → ReservingTurn Hart ConsoleState) →
    ((q : ReservingTurn Hart ConsoleState) → length (f q).log ≤ length q.log + k) → length (reserving_turn_taken i y p o f).log ≤ length p.log + suc k
log_turned i k (Done a) p o f rest = omega (arith, rest (record { hart = o.hart; bytes = after p.bytes o.stores; console = o.console; reservations = updated_by i a p.reservations; log = p.log ++ option_to_list a }), length-append p.log (option_to_list a), added a)
log_turned i k Waits p o f rest = omega arith
log_turned i k (Stopped code) p o f rest = omega arith

log_either : (b : Bool) (k : ℕ) (p q : ReservingTurn Hart ConsoleState) → length q.log ≤ length p.log + k → length (cond b p q).log ≤ length p.log + k
log_either true k p q h = omega arith
log_either false k p q h = h

reserving_turn_log : (W : Words Hart ConsoleState) (n i k : ℕ) (d : ReservingTurn Hart ConsoleState) → length (reserving_turn_from W n i k d).log ≤ length d.log + k
unfolding reserving_turn_from
reserving_turn_log W n i zero d = omega arith
reserving_turn_log W n i (suc k) d = log_either (W.stopped d.hart) (suc k) d _ (log_turned i k (reserving_turn_next W n i d).answer d (reserving_turn_next W n i d) (reserving_turn_from W n i k) (reserving_turn_log W n i k))

count-append : (xs : List (List Access)) (l : List Access) → count_log (xs ++ l ∷ []) ≡ count_log xs + length l
count-append [] l = omega arith
count-append (x ∷ xs) l = omega (arith, count-append xs l)

pub log_fits : (W : Words Hart ConsoleState) (budget n w i : ℕ) (hs : List Hart) (s : ReservingPhase Hart ConsoleState) →
    count_log (reserving_phase_from W budget n i (waiting_rounds w i hs) s).log ≤ count_log s.log + budget_from w budget i (length hs)
log_fits W budget n w i [] s = omega arith
log_fits W budget n w i (h ∷ hs) s =
    let d = reserving_turn_of W budget n s i h (is_waiting w i) in
    let one : length d.log ≤ 0 + budget_of w i budget = reserving_turn_log W n i (budget_of w i budget) (record { hart = h; bytes = s.bytes; console = s.console; reservations = s.reservations; log = [] }) in
    let rest = log_fits W budget n w (suc i) hs (reserving_phase_joined s d) in
    omega (arith, rest, one, count-append s.log d.log)

pub log_length : (W : Words Hart ConsoleState) (budget n w i : ℕ) (hs : List Hart) (s : ReservingPhase Hart ConsoleState) →
    length (reserving_phase_from W budget n i (waiting_rounds w i hs) s).log ≡ length s.log + length hs
log_length W budget n w i [] s = omega arith
log_length W budget n w i (h ∷ hs) s =
    let d = reserving_turn_of W budget n s i h (is_waiting w i) in
    omega (arith, log_length W budget n w (suc i) hs (reserving_phase_joined s d), length-append s.log (d.log ∷ []))

-- ---- all parts together

same_spares : (n : ℕ) (p q : Paged) → q.ready ≡ p.ready → q.spare ≡ p.spare → HasSpares n p → HasSpares n q
same_spares n p q e f h = subst (λ (s : ℕ). min n (count_unready q.ready) ≤ s) (sym f) (subst (λ (r : List Bool). min n (count_unready r) ≤ p.spare) (sym e) h)

pub spares_left : (n m : ℕ) (p q : Paged) → m ≡ n → q.ready ≡ p.ready → q.spare ≡ p.spare → HasSpares n p → HasSpares m q
spares_left n m p q s e f h = subst (λ (k : ℕ). HasSpares k q) (sym s) (same_spares n p q e f h)

-- a round that is done, and its events
pub record DoneWith (r : Reserving Hart ConsoleState) (old new : Guest) (more : List Event) : Type 0 where
  pub done : new ≡ guest_after r old
  pub events : more ≡ r.state.trace

abbrev pub guest_by : List Hart → List ℕ → List Range → List (Option Span) → ConsoleState → Guest
guest_by hs bs code t c = record { harts = hs; shared = record { memory = record { bytes = bs; code = code }; reservations = t; console = c } }

pub same_guest : (hs gs : List Hart) (bs cs : List ℕ) (code ranges : List Range) (t u : List (Option Span)) (c d : ConsoleState) → hs ≡ gs → bs ≡ cs → code ≡ ranges → t ≡ u → c ≡ d →
    guest_by hs bs code t c ≡ guest_by gs cs ranges u d
same_guest hs gs bs cs code ranges t u c d e1 e2 e3 e4 e5 =
    ap (λ (x : List Hart). guest_by x bs code t c) e1
    ∙ ap (λ (x : List ℕ). guest_by gs x code t c) e2
    ∙ ap (λ (x : List Range). guest_by gs cs x t c) e3
    ∙ ap (λ (x : List (Option Span)). guest_by gs cs ranges x c) e4
    ∙ ap (λ (x : ConsoleState). guest_by gs cs ranges u x) e5

-- the log of the serial phase
pub record LogFits (turns harts : ℕ) (k : Turns) : Type 0 where
  pub fits : count_log k.closed ≤ turns
  pub length : length k.closed ≡ harts

pub log_of : (phase : SerialRound) (bs : List Bool) (hs gs : List Hart) (start end : SharedState) → length bs ≡ length hs → phase.waiting ≡ mask_of bs →
    TakesTurns (serial_done phase hs start) gs start end → LogFits (turns_of phase.budget bs) (length hs) end.log
log_of phase bs hs gs start end same w x =
    let W = words_of start.pages.memory.code in
    let s : ReservingPhase Hart ConsoleState = record { harts = []; bytes = start.pages.memory.bytes; console = start.console.console; reservations = start.reservations; log = [] } in
    record {
      fits = omega (arith, ap count_log x.log, log_fits W phase.budget phase.round phase.waiting 0 hs s, ap (λ (y : ℕ). budget_from y phase.budget 0 (length hs)) w, ap (budget_from (mask_of bs) phase.budget 0) same, needed_is phase.budget bs);
      length = ap length x.log ∙ log_length W phase.budget phase.round phase.waiting 0 hs s ∙ omega arith;
    }

pub length-rounds : (W : Words Hart ConsoleState) (bs qs : List ℕ) (hs : List Hart) → length (hart_rounds W bs qs hs) ≡ length hs
length-rounds W bs qs [] = refl
length-rounds W bs qs (h ∷ hs) = ap suc (length-rounds W bs (rest_of qs) hs)

-- the rounds of a guest's harts after n rounds
abbrev pub next_rounds : Planned → ℕ → Guest → List (HartRound Hart)
next_rounds plan n g = hart_rounds (words_of g.shared.memory.code) g.shared.memory.bytes (quotas_of plan n) g.harts

pub finished_done : (logs : Bool) (plan : Planned) (phase : SerialRound) (n : ℕ) (old new : Guest) (more : List Event) (os : List HartEnd) →
    AreEndsOf logs old.shared.memory (next_rounds plan n old) os →
    phase.budget ≡ plan.budget → phase.round ≡ n + 1 → phase.waiting ≡ mask_of (waits_of os) → IsFinished phase (next_rounds plan n old) os old.shared new more →
    DoneWith (guest_round plan n old) old new more
unfolding reserving_round
finished_done logs plan phase n old new more os a budget round waiting x =
    let m = old.shared.memory in
    let W = words_of m.code in
    let rs = hart_rounds W m.bytes (quotas_of plan n) old.harts in
    let committed = x.committed in
    let memory : x.start.pages.memory ≡ stored m (all_stores rs) = committed.memory ∙ ap (λ (y : Memory). stored y (all_stores rs)) x.kept in
    let from : ℕ → ℕ → List Range → List ℕ → ConsoleState → List (Option Span) → ReservingPhase Hart ConsoleState =
    λ b k code bs c t. reserving_phase_from (words_of code) b k 0 rs (record { harts = []; bytes = bs; console = c; reservations = t; log = [] }) in
    let done : serial_done phase (harts_of os) x.start ≡ from plan.budget (n + 1) m.code (after m.bytes (all_stores rs)) old.shared.console (committed_reservations 0 rs old.shared.reservations) =
    serial_is phase logs m rs os x.start a waiting
    ∙ ap (λ (b : ℕ). from b phase.round x.start.pages.memory.code x.start.pages.memory.bytes x.start.console.console x.start.reservations) budget
    ∙ ap (λ (k : ℕ). from plan.budget k x.start.pages.memory.code x.start.pages.memory.bytes x.start.console.console x.start.reservations) round
    ∙ ap (λ (y : Memory). from plan.budget (n + 1) y.code y.bytes x.start.console.console x.start.reservations) memory
    ∙ ap (λ (c : ConsoleState). from plan.budget (n + 1) m.code (after m.bytes (all_stores rs)) c x.start.reservations) x.console
    ∙ ap (λ (t : List (Option Span)). from plan.budget (n + 1) m.code (after m.bytes (all_stores rs)) old.shared.console t) committed.reservations in
    let left = x.left in
    let served = x.served in
    record {
      done = same_guest new.harts _ new.shared.memory.bytes _ new.shared.memory.code m.code new.shared.reservations _ new.shared.console _
          (served.harts ∙ ap (λ (y : ReservingPhase Hart ConsoleState). y.harts) done)
          (ap (λ (y : Shared). y.memory.bytes) left ∙ served.pages.bytes ∙ ap (λ (y : ReservingPhase Hart ConsoleState). y.bytes) done)
          (ap (λ (y : Shared). y.memory.code) left ∙ served.pages.code ∙ ap (λ (y : Memory). y.code) memory)
          (ap (λ (y : Shared). y.reservations) left ∙ served.reservations ∙ ap (λ (y : ReservingPhase Hart ConsoleState). y.reservations) done)
          (ap (λ (y : Shared). y.console) left ∙ served.console ∙ ap (λ (y : ReservingPhase Hart ConsoleState). y.console) done);
      events = x.events
          ∙ ap (λ (k : ℕ). events_of_rounds k rs x.end.log.closed) round
          ∙ ap (λ (y : List (List Access)). events_from (n + 1) 0 rs ++ log_events (n + 1) 0 y) (served.log ∙ ap (λ (y : ReservingPhase Hart ConsoleState). y.log) done);
    }

pub waited_is : (logs : Bool) (m : Memory) (rs : List (HartRound Hart)) (os : List HartEnd) → AreEndsOf logs m rs os → count_true (waits_of os) ≡ count_waiting rs
waited_is logs m [] [] a = refl
waited_is logs m (r ∷ rs) [] a = absurd a
waited_is logs m [] (o ∷ os) a = absurd a
waited_is logs m (r ∷ rs) (o ∷ os) a = ap (λ (b : Bool). cond b 1 0 + count_true (waits_of os)) (waits_is a.0) ∙ ap (λ (n : ℕ). cond r.waits 1 0 + n) (waited_is logs m rs os a.1)

abbrev pub whole : List Hart → List ℕ → ConsoleState → List Event → ℕ → State Hart ConsoleState
whole hs bs c es k = record { harts = hs; bytes = bs; console = c; trace = es; rounds = k }

-- the parts with the events so far
abbrev pub traced_fields : ℕ → List Hart → List ℕ → List (Option Span) → ConsoleState → List Event → Reserving Hart ConsoleState
traced_fields n hs bs t c es = record { state = whole hs bs c es n; reservations = t }

-- a round over the reservations looks at no event: it only adds its own
pub only_added : (W : Words Hart ConsoleState) (budget : ℕ) (quotas : ℕ → List ℕ) (n : ℕ) (hs : List Hart) (bs : List ℕ) (t : List (Option Span)) (c : ConsoleState) (es : List Event) →
    let r = reserving_round W budget quotas (traced_fields n hs bs t c []) in
    reserving_round W budget quotas (traced_fields n hs bs t c es) ≡ record { state = whole r.state.harts r.state.bytes r.state.console (es ++ r.state.trace) r.state.rounds; reservations = r.reservations }
unfolding reserving_round
only_added W budget quotas n hs bs t c es =
    let rs = hart_rounds W bs (quotas n) hs in
    let r = reserving_round W budget quotas (traced_fields n hs bs t c []) in
    ap (λ (y : List Event). record { state = whole r.state.harts r.state.bytes r.state.console y r.state.rounds; reservations = r.reservations })
    (append_assoc es (events_from (n + 1) 0 rs) _)

-- the round is counted
pub rounds_next : (W : Words Hart ConsoleState) (budget : ℕ) (quotas : ℕ → List ℕ) (m : Reserving Hart ConsoleState) → m.state.rounds + 1 ≡ (reserving_round W budget quotas m).state.rounds
unfolding reserving_round
rounds_next W budget quotas m = refl

-- a round that goes on so is finished
pub finished_from : (phase : SerialRound) (rs : List (HartRound Hart)) (os : List HartEnd) (gs : List Hart) (old ready start end : SharedState) → ready.pages.memory ≡ old.pages.memory →
    Committed rs ready.pages start.pages old.reservations start.reservations →
    start.console.console ≡ old.console.console → TakesTurns (serial_done phase (harts_of os) start) gs start end →
    IsFinished phase rs os (shared_of old) (guest_of gs end) (events_of_rounds phase.round rs end.log.closed)
finished_from phase rs os gs old ready start end kept committed console served = record {
  ready = ready.pages;
  start = start;
  end = end;
  kept = kept;
  committed = committed;
  console = console;
  served = served;
  left = refl;
  events = refl;
}
