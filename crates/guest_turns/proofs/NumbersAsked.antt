-- Whether a hart asks for the number of a round: turn by turn, and from the rounds of all harts.
use Rattle.std.proofs.Common.{◌<◌, ◌≤◌, length, take, ◌-◌, get_or, arith, ◌≡◌, ℕ, suc, ◌+◌, ◌||◌, Bool, true, false, cond, List, [], ◌∷◌, Option, refl, sym, ap, subst, ◌∙◌}
use Rattle.pages.specs.Memory.{IsBytes, Memory, stored}
use Rattle.pages.specs.Paged.{Paged}
use Rattle.pages.specs.declared.access.Range.{Range}
use Rattle.round_schedule.specs.declared.event.Event.{Event}
use Rattle.round_schedule.specs.declared.span.Span.{Span}
use Rattle.round_schedule.specs.ReservingTurn.{ReservingPhase, ReservingTurn, reserving_phase_joined, reserving_turn_from, reserving_turn_of}
use Rattle.round_schedule.specs.Schedule.{HartRound, State, all_stores, hart_rounds}
use Rattle.round_schedule.specs.Reservations.{Tied}
use Rattle.round_planner.specs.Quotas.{Planned, quotas_of}
use Rattle.commit_phase.specs.Commit.{Committed}
use Rattle.hart_step.specs.declared.hart.Hart.{Hart}
use Rattle.hart_step.specs.Console.{ConsoleState}
use Rattle.hart_step.specs.Words.{words_of}
use Rattle.hart_step.proofs.Soundness.{sound}
use Rattle.serial_phase.specs.Asking.{asks_in_round, asks_in_reserving_phase, asks_in_reserving_round, asks_in_reserving_turn}
use Rattle.serial_phase.specs.Forgetting.{asks_number}
use Rattle.serial_phase.proofs.ReservationsTied.{asking_by_reservations}
use Rattle.serial_phase.specs.Phase.{TakesTurn, turn_done}
use Rattle.serial_phase.specs.declared.shared.SharedState.{SharedState}
use Rattle.serial_phase.specs.declared.shared.Turn.{Turn}
use Rattle.hart_rounds.specs.declared.hart_end.HartEnd.{HartEnd}
use Rattle.guest_turns.specs.Asked.{ready_for_turns, reserving_turn_begun}
use Rattle.guest_rounds.specs.Guests.{Shared}
use Rattle.guest_rounds.specs.HartEnds.{AreEndsOf}
use Rattle.guest_turns.specs.NumberAsked.{TellsAsking}
use Rattle.guest_turns.proofs.AskedTurns.{IsAsBefore, next_turn, rest, turn_for}
use Rattle.guest_rounds.proofs.EndParts.{hart_is, waits_is}

-- ---- turn by turn

-- whether the first one asks
abbrev pub asks_first : Turn → HartEnd → SharedState → Bool
asks_first turn o s =
    asks_in_reserving_turn (words_of s.pages.memory.code) (asks_number s.pages.memory.code) turn.round turn.hart (turn_for turn o).budget
    (reserving_turn_begun o.hart s.pages.memory.bytes s.console.console s.reservations)

pub none_asks : (turn : Turn) (s : SharedState) → TellsAsking turn [] s false
none_asks turn s logs m [] c a eb ec et = refl
none_asks turn s logs m (r ∷ rs) c a eb ec et = absurd a

first_is : (turn : Turn) (o : HartEnd) (s : SharedState) (logs : Bool) (m : Memory) (r : HartRound Hart) (rs : List (HartRound Hart)) (os : List HartEnd) (c : ReservingPhase Hart ConsoleState) →
    AreEndsOf logs m (r ∷ rs) (o ∷ os) → c.bytes ≡ s.pages.memory.bytes → c.console ≡ s.console.console → c.reservations ≡ s.reservations →
    asks_first turn o s ≡ asks_in_reserving_turn (words_of s.pages.memory.code) (asks_number s.pages.memory.code) turn.round turn.hart (cond r.waits turn.budget 0)
    (reserving_turn_begun r.last.hart c.bytes c.console c.reservations)
first_is turn o s logs m r rs os c a eb ec et =
    let T : Bool → Hart → List ℕ → ConsoleState → List (Option Span) → Bool =
    λ b g bs e reservations. asks_in_reserving_turn (words_of s.pages.memory.code) (asks_number s.pages.memory.code) turn.round turn.hart (cond b turn.budget 0) (reserving_turn_begun g bs e reservations) in
    ap (λ (b : Bool). T b o.hart s.pages.memory.bytes s.console.console s.reservations) (waits_is a.0)
    ∙ ap (λ (g : Hart). T r.waits g s.pages.memory.bytes s.console.console s.reservations) (hart_is a.0)
    ∙ ap (λ (bs : List ℕ). T r.waits r.last.hart bs s.console.console s.reservations) (sym eb)
    ∙ ap (λ (e : ConsoleState). T r.waits r.last.hart c.bytes e s.reservations) (sym ec)
    ∙ ap (λ (reservations : List (Option Span)). T r.waits r.last.hart c.bytes c.console reservations) (sym et)

first_asks : (turn : Turn) (o : HartEnd) (os : List HartEnd) (s : SharedState) → asks_first turn o s ≡ true → TellsAsking turn (o ∷ os) s true
first_asks turn o os s f logs m [] c a eb ec et = absurd a
first_asks turn o os s f logs m (r ∷ rs) c a eb ec et =
    ap (λ (b : Bool). b || asks_in_reserving_phase (words_of s.pages.memory.code) (asks_number s.pages.memory.code) turn.budget turn.round (suc turn.hart) rs
    (reserving_phase_joined c (reserving_turn_of (words_of s.pages.memory.code) turn.budget turn.round c turn.hart r.last.hart r.waits)))
    (sym f ∙ first_is turn o s logs m r rs os c a eb ec et)

later_asks : (turn : Turn) (o : HartEnd) (os : List HartEnd) (s s' : SharedState) (h : Hart) (b : Bool) → asks_first turn o s ≡ false →
    TakesTurn (turn_done (turn_for turn o) o.hart s) h s s' → TellsAsking (next_turn turn) os s' b → TellsAsking turn (o ∷ os) s b
later_asks turn o os s s' h b f x y logs m [] c a eb ec et = absurd a
later_asks turn o os s s' h b f x y logs m (r ∷ rs) c a eb ec et =
    let n = turn.round in
    let first = turn.hart in
    let budget = turn.budget in
    let code : List Range = s.pages.memory.code in
    let W = words_of code in
    let reserving_turn : Bool → Hart → List ℕ → ConsoleState → List (Option Span) → ReservingTurn Hart ConsoleState = λ b g bs e reservations. reserving_turn_from W n first (cond b budget 0) (reserving_turn_begun g bs e reservations) in
    let D : ReservingTurn Hart ConsoleState = reserving_turn_of W budget n c first r.last.hart r.waits in
    let same : turn_done (turn_for turn o) o.hart s ≡ D =
    ap (λ (b : Bool). reserving_turn b o.hart s.pages.memory.bytes s.console.console s.reservations) (waits_is a.0)
    ∙ ap (λ (g : Hart). reserving_turn r.waits g s.pages.memory.bytes s.console.console s.reservations) (hart_is a.0)
    ∙ ap (λ (bs : List ℕ). reserving_turn r.waits r.last.hart bs s.console.console s.reservations) (sym eb)
    ∙ ap (λ (e : ConsoleState). reserving_turn r.waits r.last.hart c.bytes e s.reservations) (sym ec)
    ∙ ap (λ (reservations : List (Option Span)). reserving_turn r.waits r.last.hart c.bytes c.console reservations) (sym et) in
    let x' = subst (λ (z : ReservingTurn Hart ConsoleState). TakesTurn z h s s') same x in
    let z = y logs m rs (reserving_phase_joined c D) a.1 (sym x'.pages.bytes) (sym x'.console) (sym x'.reservations) in
    let next : first + 1 ≡ suc first = omega arith in
    let later : b ≡ asks_in_reserving_phase W (asks_number code) budget n (suc first) rs (reserving_phase_joined c D) =
    z ∙ ap (λ (d : List Range). asks_in_reserving_phase (words_of d) (asks_number d) budget n (first + 1) rs (reserving_phase_joined c D)) x'.pages.code
    ∙ ap (λ (j : ℕ). asks_in_reserving_phase W (asks_number code) budget n j rs (reserving_phase_joined c D)) next in
    later ∙ ap (λ (e : Bool). e || asks_in_reserving_phase W (asks_number code) budget n (suc first) rs (reserving_phase_joined c D)) (sym f ∙ first_is turn o s logs m r rs os c a eb ec et)

-- where room was made before
pub tells_first : (turn : Turn) (os : List HartEnd) (s t : SharedState) (b : Bool) → IsAsBefore s t → TellsAsking turn os t b → TellsAsking turn os s b
tells_first turn os s t b same tells logs m rs c a eb ec et =
    let memory = same.keeps.memory in
    tells logs m rs c a (eb ∙ sym (ap (λ (x : Memory). x.bytes) memory)) (ec ∙ sym same.console) (et ∙ sym same.reservations)
    ∙ ap (λ (x : Memory). asks_in_reserving_phase (words_of x.code) (asks_number x.code) turn.budget turn.round turn.hart rs c) memory

-- by the first of a list

all_taken : (os : List HartEnd) → take (length os) os ≡ os
all_taken [] = refl
all_taken (o ∷ os) = ap (λ (x : List HartEnd). o ∷ x) (all_taken os)

rest_is : (o : HartEnd) (os : List HartEnd) → rest (o ∷ os) ≡ os
rest_is o os = let e : length (o ∷ os) - 1 ≡ length os = omega arith in ap (λ (n : ℕ). take n os) e ∙ all_taken os

pub none_there_asks : (turn : Turn) (os : List HartEnd) (s : SharedState) → length os < 1 → TellsAsking turn os s false
none_there_asks turn [] s lt = none_asks turn s
none_there_asks turn (o ∷ os) s lt = absurd (omega (arith, lt))

asks_by : Turn → HartEnd → SharedState → Turn → Bool
asks_by turn o s t =
    asks_in_reserving_turn (words_of s.pages.memory.code) (asks_number s.pages.memory.code) t.round t.hart t.budget
    (reserving_turn_begun o.hart s.pages.memory.bytes s.console.console s.reservations)

-- what is told of the turn of the first, b
pub first_up : (turn of_first : Turn) (o : HartEnd) (os : List HartEnd) (s : SharedState) (b : Bool) → 1 ≤ length os → o ≡ get_or os 0 o → of_first ≡ turn_for turn o → b ≡ true →
    b ≡ asks_in_reserving_turn (words_of s.pages.memory.code) (asks_number s.pages.memory.code) of_first.round of_first.hart of_first.budget (reserving_turn_begun o.hart s.pages.memory.bytes s.console.console s.reservations) →
    TellsAsking turn os s true
unfolding asks_by
first_up turn of_first o [] s b some is e good told = absurd (omega (arith, some))
first_up turn of_first o (v ∷ os) s b some is e good told =
    let f : asks_first turn o s ≡ true = ap (asks_by turn o s) (sym e) ∙ sym told ∙ good in
    first_asks turn v os s (subst (λ (z : HartEnd). asks_first turn z s ≡ true) is f)

pub later_up : (turn of_first : Turn) (o : HartEnd) (os : List HartEnd) (s s' : SharedState) (h : Hart) (a b : Bool) → 1 ≤ length os → o ≡ get_or os 0 o → of_first ≡ turn_for turn o → a ≡ false →
    a ≡ asks_in_reserving_turn (words_of s.pages.memory.code) (asks_number s.pages.memory.code) of_first.round of_first.hart of_first.budget (reserving_turn_begun o.hart s.pages.memory.bytes s.console.console s.reservations) →
    TakesTurn (turn_done of_first o.hart s) h s s' → TellsAsking (next_turn turn) (rest os) s' b → TellsAsking turn os s b
unfolding asks_by
later_up turn of_first o [] s s' h a b some is e bad told x y = absurd (omega (arith, some))
later_up turn of_first o (v ∷ os) s s' h a b some is e bad told x y =
    let f : asks_first turn o s ≡ false = ap (asks_by turn o s) (sym e) ∙ sym told ∙ bad in
    let x1 = subst (λ (t : Turn). TakesTurn (turn_done t o.hart s) h s s') e x in
    let x2 : TakesTurn (turn_done (turn_for turn v) v.hart s) h s s' = subst (λ (z : HartEnd). TakesTurn (turn_done (turn_for turn z) z.hart s) h s s') is x1 in
    later_asks turn v os s s' h b (subst (λ (z : HartEnd). asks_first turn z s ≡ false) is f) x2
    (subst (λ (q : List HartEnd). TellsAsking (next_turn turn) q s' b) (rest_is v os) y)

-- ---- after a commit

pub committed_asks : (logs : Bool) (turn : Turn) (round budget : ℕ) (old : Shared) (rs : List (HartRound Hart)) (os : List HartEnd) (ready : Paged) (start : SharedState) (b : Bool) →
    turn ≡ record { hart = 0; round = round; budget = budget } → AreEndsOf logs old.memory rs os → ready.memory ≡ old.memory → Committed rs ready start.pages old.reservations start.reservations →
    start.console.console ≡ old.console → TellsAsking turn os start b →
    b ≡ asks_in_reserving_phase (words_of old.memory.code) (asks_number old.memory.code) budget round 0 rs (ready_for_turns old rs)
committed_asks logs turn round budget old rs os ready start b first a same committed console tells =
    let m = old.memory in
    let memory : start.pages.memory ≡ stored m (all_stores rs) = committed.memory ∙ ap (λ (x : Memory). stored x (all_stores rs)) same in
    let c : ReservingPhase Hart ConsoleState = ready_for_turns old rs in
    let told = (subst (λ (t : Turn). TellsAsking t os start b) first tells) logs m rs c a (sym (ap (λ (x : Memory). x.bytes) memory)) (sym console) (sym committed.reservations) in
    let code : start.pages.memory.code ≡ m.code = ap (λ (x : Memory). x.code) memory in
    told ∙ ap (λ (z : List Range). asks_in_reserving_phase (words_of z) (asks_number z) budget round 0 rs c) code

-- ---- in the next round

reserving_asks : (code : List Range) (budget : ℕ) (quotas : ℕ → List ℕ) (s : State Hart ConsoleState) (reservations : List (Option Span)) → IsBytes s.bytes → Tied reservations s.trace → length reservations ≡ length s.harts →
    asks_in_reserving_phase (words_of code) (asks_number code) budget (s.rounds + 1) 0 (hart_rounds (words_of code) s.bytes (quotas s.rounds) s.harts)
    (ready_for_turns (record { memory = record { bytes = s.bytes; code = code }; reservations = reservations; console = s.console }) (hart_rounds (words_of code) s.bytes (quotas s.rounds) s.harts))
    ≡ asks_in_round (words_of code) (asks_number code) budget quotas s
unfolding asks_in_reserving_round
reserving_asks code budget quotas s reservations bytes tied size =
    asking_by_reservations Hart ConsoleState (words_of code) (asks_number code) budget quotas (record { state = s; reservations = reservations }) (sound code) bytes tied size

pub round_asks : (logs : Bool) (plan : Planned) (n : ℕ) (hs : List Hart) (p : Paged) (t : List (Option Span)) (c : ConsoleState) (es : List Event) (os : List HartEnd) (b : Bool) →
    AreEndsOf logs p.memory (hart_rounds (words_of p.memory.code) p.memory.bytes (quotas_of plan n) hs) os → IsBytes p.memory.bytes → Tied t es → length t ≡ length hs →
    ((ls : Bool) (rs : List (HartRound Hart)) → AreEndsOf ls p.memory rs os →
    b ≡ asks_in_reserving_phase (words_of p.memory.code) (asks_number p.memory.code) plan.budget (n + 1) 0 rs (ready_for_turns (record { memory = p.memory; reservations = t; console = c }) rs)) →
    b ≡ asks_in_round (words_of p.memory.code) (asks_number p.memory.code) plan.budget (quotas_of plan) (record { harts = hs; bytes = p.memory.bytes; console = c; trace = es; rounds = n })
round_asks logs plan n hs p t c es os b a bytes tied size told =
    told logs _ a
    ∙ reserving_asks p.memory.code plan.budget (quotas_of plan) (record { harts = hs; bytes = p.memory.bytes; console = c; trace = es; rounds = n }) t bytes tied size
