-- Harts that have stopped stay as they are from round to round.
use Rattle.std.proofs.Common.{◌≡◌, ◌<◌, ℕ, zero, suc, ◌+◌, true, List, [], ◌∷◌, ◌++◌, get_or, is_some, length, take, refl, sym, ap, ◌∙◌, subst, arith, below_more, length-append, min}
use Rattle.std.proofs.Math.Seq.{get_or-append_seam}
use Rattle.std.proofs.lemmas.List.{get_or_append_left, get_or_default, get_or-take, length-take}
use Rattle.pages.specs.declared.access.Range.{Range}
use Rattle.round_schedule.specs.ReservingTurn.{ReservingPhase, ReservingTurn, reserving_phase_from, reserving_phase_joined, reserving_turn_from, reserving_turn_of}
use Rattle.hart_step.specs.declared.hart.Hart.{Hart}
use Rattle.hart_step.specs.Console.{ConsoleState}
use Rattle.hart_step.specs.Words.{words_of}
use Rattle.serial_phase.specs.declared.shared.SerialRound.{SerialRound}
use Rattle.serial_phase.specs.declared.shared.SharedState.{SharedState}
use Rattle.serial_phase.specs.Phase.{TakesTurns, is_waiting, serial_done, waiting_rounds}
use Rattle.hart_rounds.specs.declared.hart_end.HartEnd.{HartEnd}
use Rattle.guest_rounds.specs.HartEnds.{StoppedStay, harts_of}
use Rattle.hart_rounds.proofs.AtRest.{picked}
use Rattle.guest_rounds.proofs.Listed.{harts-push}
use Rattle.guest_rounds.proofs.RoundDone.{length-harts}

-- an empty list keeps nothing
pub stay_none : (hs gs : List Hart) → gs ≡ [] → StoppedStay hs gs
stay_none hs gs none = λ i h low few stop. absurd (omega (arith, few, ap length none))

-- a hart in what the rounds left
pub hart_at : (os : List HartEnd) (i : ℕ) (h : Hart) (o : HartEnd) → i < length os → get_or (harts_of os) i h ≡ (get_or os i o).hart
hart_at [] i h o low = absurd (omega (arith, low))
hart_at (x ∷ os) zero h o low = refl
hart_at (x ∷ os) (suc i) h o low = hart_at os i h o (omega (arith, low))

-- where a hart has stopped, it is the hart itself
pub stays_at : (hs : List Hart) (os : List HartEnd) (i : ℕ) (o : HartEnd) → i < length hs → i < length os → StoppedStay hs (harts_of os) → is_some (get_or os i o).hart.stop ≡ true →
    get_or hs i o.hart ≡ (get_or os i o).hart
stays_at hs os i o low less kept stopped =
    let here = hart_at os i o.hart o less in
    sym (kept i o.hart low (omega (arith, less, length-harts os)) (ap (λ (h : Hart). is_some h.stop) here ∙ stopped)) ∙ here

-- the first of them
harts_take : (n : ℕ) (os : List HartEnd) → harts_of (take n os) ≡ take n (harts_of os)
harts_take zero os = refl
harts_take (suc n) [] = refl
harts_take (suc n) (o ∷ os) = ap (λ (hs : List Hart). o.hart ∷ hs) (harts_take n os)

front_stays : (n : ℕ) (hs gs : List Hart) → StoppedStay hs gs → StoppedStay hs (take n gs)
front_stays n hs gs kept = λ i h low few stopped.
    let size : length (take n gs) ≡ min n (length gs) = length-take n gs in
    let inside : i < n = omega (arith, few, size) in
    let same : get_or (take n gs) i h ≡ get_or gs i h = get_or-take n gs i h inside in
    same ∙ kept i h low (omega (arith, few, size)) (ap (λ (g : Hart). is_some g.stop) (sym same) ∙ stopped)

pub ends_front_stay : (n : ℕ) (hs : List Hart) (os : List HartEnd) → StoppedStay hs (harts_of os) → StoppedStay hs (harts_of (take n os))
ends_front_stay n hs os kept = subst (StoppedStay hs) (sym (harts_take n os)) (front_stays n hs (harts_of os) kept)

-- one more
pub stay_push : (hs : List Hart) (os : List HartEnd) (o : HartEnd) → get_or hs (length os) o.hart ≡ o.hart → StoppedStay hs (harts_of os) → StoppedStay hs (harts_of (os ++ o ∷ []))
stay_push hs os o here kept = subst (StoppedStay hs) (sym (harts-push os o)) (λ i h low few stopped.
    let gs = harts_of os in
    let both : List Hart = gs ++ o.hart ∷ [] in
    let old : (k : ℕ) → k < length gs → k < length hs → is_some (get_or both k h).stop ≡ true → get_or both k h ≡ get_or hs k h = λ k less below stops.
    let same = get_or_append_left gs (o.hart ∷ []) h k less in
    same ∙ kept k h below less (ap (λ (g : Hart). is_some g.stop) (sym same) ∙ stops) in
    let last : length gs < length hs → is_some (get_or both (length gs) h).stop ≡ true → get_or both (length gs) h ≡ get_or hs (length gs) h = λ below stops.
    get_or-append_seam gs o.hart [] h ∙ sym (ap (λ (n : ℕ). get_or hs n o.hart) (length-harts os) ∙ here) ∙ get_or_default hs (length gs) o.hart h below in
    below_more (λ k. k < length hs → is_some (get_or both k h).stop ≡ true → get_or both k h ≡ get_or hs k h) (length gs) old last i (omega (arith, few, length-append gs (o.hart ∷ []))) low stopped)

-- ---- the serial phase

-- the turn of a hart that has stopped leaves it
turn_of_stopped : (code : List Range) (n i k : ℕ) (p : ReservingTurn Hart ConsoleState) → is_some p.hart.stop ≡ true → reserving_turn_from (words_of code) n i k p ≡ p
unfolding reserving_turn_from
turn_of_stopped code n i zero p e = refl
turn_of_stopped code n i (suc k) p e = picked (is_some p.hart.stop) p _ e

-- harts that had their turn stay
stay : (code : List Range) (budget n w i : ℕ) (hs : List Hart) (s : ReservingPhase Hart ConsoleState) (k : ℕ) (h : Hart) → k < length s.harts →
    get_or (reserving_phase_from (words_of code) budget n i (waiting_rounds w i hs) s).harts k h ≡ get_or s.harts k h
stay code budget n w i [] s k h low = refl
stay code budget n w i (x ∷ hs) s k h low =
    let d = reserving_turn_of (words_of code) budget n s i x (is_waiting w i) in
    stay code budget n w (suc i) hs (reserving_phase_joined s d) k h (omega (arith, low, length-append s.harts (d.hart ∷ [])))
    ∙ get_or_append_left s.harts (d.hart ∷ []) h k low

-- a stopped hart is left by all turns
left_stopped : (code : List Range) (budget n w i : ℕ) (hs : List Hart) (s : ReservingPhase Hart ConsoleState) (k : ℕ) (h : Hart) → k < length hs → is_some (get_or hs k h).stop ≡ true →
    get_or (reserving_phase_from (words_of code) budget n i (waiting_rounds w i hs) s).harts (length s.harts + k) h ≡ get_or hs k h
left_stopped code budget n w i [] s k h low e = absurd (omega (arith, low))
left_stopped code budget n w i (x ∷ hs) s zero h low e =
    let d = reserving_turn_of (words_of code) budget n s i x (is_waiting w i) in
    let t = reserving_phase_joined s d in
    let whole = reserving_phase_from (words_of code) budget n (suc i) (waiting_rounds w (suc i) hs) t in
    ap (λ (m : ℕ). get_or whole.harts m h) (omega arith)
    ∙ stay code budget n w (suc i) hs t (length s.harts) h (omega (arith, length-append s.harts (d.hart ∷ [])))
    ∙ get_or-append_seam s.harts d.hart [] h
    ∙ ap (λ (p : ReservingTurn Hart ConsoleState). p.hart) (turn_of_stopped code n i _ _ e)
left_stopped code budget n w i (x ∷ hs) s (suc k) h low e =
    let d = reserving_turn_of (words_of code) budget n s i x (is_waiting w i) in
    let t = reserving_phase_joined s d in
    let whole = reserving_phase_from (words_of code) budget n (suc i) (waiting_rounds w (suc i) hs) t in
    ap (λ (m : ℕ). get_or whole.harts m h) (omega (arith, length-append s.harts (d.hart ∷ [])))
    ∙ left_stopped code budget n w (suc i) hs t k h (omega (arith, low)) e

pub stay_by_turns : (phase : SerialRound) (hs gs : List Hart) (start end : SharedState) → TakesTurns (serial_done phase hs start) gs start end → StoppedStay gs hs
stay_by_turns phase hs gs start end x = λ i h low few stopped.
    let s : ReservingPhase Hart ConsoleState = record { harts = []; bytes = start.pages.memory.bytes; console = start.console.console; reservations = start.reservations; log = [] } in
    let left : get_or (serial_done phase hs start).harts (0 + i) h ≡ get_or hs i h = left_stopped start.pages.memory.code phase.budget phase.round phase.waiting 0 hs s i h few stopped in
    sym (ap (λ (xs : List Hart). get_or xs i h) x.harts ∙ ap (λ (n : ℕ). get_or (serial_done phase hs start).harts n h) (omega arith) ∙ left)
