-- The schedule of a run, over any set of instructions: the round of one hart, the commit, the serial turns, a round, a run.
use Rattle.std.specs.Prelude.{◌≡◌, ℕ, zero, suc, ◌+◌, ◌<◌, ◌≤◌, ◌⊎◌, Bool, true, false, if◌then◌else◌, List, [], ◌∷◌, ◌++◌, length, slice_index, Option, option_to_list}
use Rattle.pages.specs.declared.access.Store.{Store}
use Rattle.pages.specs.Memory.{after, last_byte}
use Rattle.round_schedule.specs.declared.access.Access.{Access}
use Rattle.round_schedule.specs.declared.access.Stepped.{Stepped}
use Rattle.round_schedule.specs.declared.access.Stepped.TheVariants.{Done, Waits, Stopped}
use Rattle.round_schedule.specs.declared.event.Event.{Event}
use Rattle.round_schedule.specs.declared.event.Phase.TheVariants.{Parallel, Serial}
use Rattle.round_schedule.specs.declared.span.Span.{Span}
use Rattle.round_schedule.specs.Events.{events_of}
use Rattle.round_schedule.specs.Held.{held}

-- what one instruction leaves: its answer, the hart after it, and the stores that it made
pub record StepOutcome (H : Type 0) : Type 0 where
  pub answer : Stepped
  pub hart : H
  pub stores : List Store

-- the same of one instruction of the serial phase, with the console after it
pub record SerialOutcome (H C : Type 0) : Type 0 where
  pub answer : Stepped
  pub hart : H
  pub stores : List Store
  pub console : C

-- a set of instructions: the next one of a hart on these bytes in the parallel phase; and in the serial phase,
-- where the number of the round, the console and the hart's reservation are seen too
pub record Words (H C : Type 0) : Type 0 where
  pub stopped : H → Bool
  pub step : H → List ℕ → StepOutcome H
  pub serial_step : ℕ → H → List ℕ → C → Option Span → SerialOutcome H C

-- ---- the round of one hart: its part of the parallel phase

-- how far a hart is: its state, the stores that it made in this phase, and its accesses in program order
pub record Progress (H : Type 0) : Type 0 where
  pub hart : H
  pub stores : List Store
  pub accesses : List Access

-- a hart's round: where it ended, and whether the hart waits for the serial phase
pub record HartRound (H : Type 0) : Type 0 where
  pub last : Progress H
  pub waits : Bool

abbrev pub began : {H : Type 0} → H → Progress H
began h = record { hart = h; stores = []; accesses = [] }

abbrev pub went : {H : Type 0} → Progress H → StepOutcome H → Option Access → Progress H
went p o a = record { hart = o.hart; stores = p.stores ++ o.stores; accesses = p.accesses ++ option_to_list a }

abbrev pub ended : {H : Type 0} → Progress H → Bool → HartRound H
ended p waits = record { last = p; waits = waits }

abbrev pub halted : {H : Type 0} → Progress H → StepOutcome H → Bool → HartRound H
halted p o waits = ended (record p { hart = o.hart }) waits

-- the hart's next instruction, on the round's bytes under its own stores
abbrev pub next_of : {H C : Type 0} → Words H C → List ℕ → Progress H → StepOutcome H
next_of w bs p = w.step p.hart (after bs p.stores)

abbrev pub by_answer : {H : Type 0} → Stepped → Progress H → StepOutcome H → (Progress H → HartRound H) → HartRound H
by_answer (Done a) p o f = f (went p o a)
by_answer Waits p o f = halted p o true
by_answer (Stopped code) p o f = halted p o false

-- the round of a hart that may do n further instructions
unfoldable pub round_from : {H C : Type 0} → Words H C → List ℕ → ℕ → Progress H → HartRound H
round_from w bs zero p = ended p false
round_from w bs (suc n) p =
    if w.stopped p.hart then ended p false else by_answer (next_of w bs p).answer p (next_of w bs p) (round_from w bs n)

-- the round of a hart with this quota
abbrev pub hart_round_of : {H C : Type 0} → Words H C → List ℕ → ℕ → H → HartRound H
hart_round_of w bs quota h = round_from w bs quota (began h)

-- the same as a sequence of states, each from the one before by one instruction

abbrev pub Goes : {H C : Type 0} → Words H C → List ℕ → Progress H → Progress H → Type 0
Goes w bs p q = (w.stopped p.hart ≡ false) × ((a : Option Access) × ((next_of w bs p).answer ≡ Done a) × (q ≡ went p (next_of w bs p) a))

-- k instructions lead from one state to another
abbrev pub Reaches : {H C : Type 0} → Words H C → List ℕ → ℕ → Progress H → Progress H → Type 0
Reaches w bs zero p t = t ≡ p
Reaches {H} w bs (suc k) p t = (q : Progress H) × (Goes w bs p q × Reaches w bs k q t)

-- the sequence ends here with j instructions of the quota left: none are left, the hart is or gets stopped, or a serial word is next
abbrev pub Ends : {H C : Type 0} → Words H C → List ℕ → ℕ → Progress H → HartRound H → Type 0
Ends w bs j t r =
    ((j ≡ 0) × (r ≡ ended t false))
    ⊎ (((w.stopped t.hart ≡ true) × (r ≡ ended t false))
    ⊎ (((0 < j) × (w.stopped t.hart ≡ false) × ((next_of w bs t).answer ≡ Waits) × (r ≡ halted t (next_of w bs t) true))
    ⊎ ((code : ℕ) × (0 < j) × (w.stopped t.hart ≡ false) × ((next_of w bs t).answer ≡ Stopped code) × (r ≡ halted t (next_of w bs t) false))))

-- a hart's round is the end of a longest sequence of at most n instructions
abbrev pub IsHartRound : {H C : Type 0} → Words H C → List ℕ → ℕ → Progress H → HartRound H → Type 0
IsHartRound {H} w bs n p r = (k : ℕ) × (j : ℕ) × (t : Progress H) × (k + j ≡ n) × Reaches w bs k p t × Ends w bs j t r

-- there is exactly one
abbrev pub HartRoundIsLongest : (H C : Type 0) → Type 0
HartRoundIsLongest H C =
    (w : Words H C) (bs : List ℕ) (n : ℕ) (p : Progress H) (r : HartRound H) →
    (IsHartRound w bs n p r → r ≡ round_from w bs n p) × (r ≡ round_from w bs n p → IsHartRound w bs n p r)

-- ---- all harts

abbrev pub first_or_zero : List ℕ → ℕ
first_or_zero [] = 0
first_or_zero (q ∷ qs) = q

abbrev pub rest_of : List ℕ → List ℕ
rest_of [] = []
rest_of (q ∷ qs) = qs

-- the rounds of all harts, each on the same bytes
abbrev pub hart_rounds : {H C : Type 0} → Words H C → List ℕ → List ℕ → List H → List (HartRound H)
hart_rounds w bs qs [] = []
hart_rounds w bs qs (h ∷ hs) = hart_round_of w bs (first_or_zero qs) h ∷ hart_rounds w bs (rest_of qs) hs

-- their events in round n, hart by hart from hart i on
abbrev pub events_from : {H : Type 0} → ℕ → ℕ → List (HartRound H) → List Event
events_from n i [] = []
events_from n i (r ∷ rs) = events_of n i Parallel r.last.accesses ++ events_from n (suc i) rs

-- their stores, hart by hart
abbrev pub all_stores : {H : Type 0} → List (HartRound H) → List Store
all_stores [] = []
all_stores (r ∷ rs) = r.last.stores ++ all_stores rs

-- ---- the state of a run

pub record State (H C : Type 0) : Type 0 where
  pub harts : List H
  pub bytes : List ℕ
  pub console : C
  pub trace : List Event
  pub rounds : ℕ

-- the commit: all stores, hart by hart, onto the bytes of the round's start; no hart has had its serial turn
abbrev pub committed : {H C : Type 0} → State H C → List (HartRound H) → State H C
committed s rs = record { harts = []; bytes = after s.bytes (all_stores rs); console = s.console; trace = s.trace ++ events_from (s.rounds + 1) 0 rs; rounds = s.rounds + 1 }

-- ---- the serial turn of one hart

pub record Turn (H C : Type 0) : Type 0 where
  pub hart : H
  pub bytes : List ℕ
  pub console : C
  pub trace : List Event

abbrev pub turned : {H C : Type 0} → ℕ → ℕ → Stepped → Turn H C → SerialOutcome H C → (Turn H C → Turn H C) → Turn H C
turned n i (Done a) p o f = f (record { hart = o.hart; bytes = after p.bytes o.stores; console = o.console; trace = p.trace ++ events_of n i Serial (option_to_list a) })
turned n i Waits p o f = record p { hart = o.hart }
turned n i (Stopped code) p o f = record p { hart = o.hart }

-- the hart's next instruction, on memory itself
abbrev pub serial_next : {H C : Type 0} → Words H C → ℕ → ℕ → Turn H C → SerialOutcome H C
serial_next w n i p = w.serial_step n p.hart p.bytes p.console (held i p.trace)

-- at most k further instructions of hart i's turn in round n
unfoldable pub turn_from : {H C : Type 0} → Words H C → ℕ → ℕ → ℕ → Turn H C → Turn H C
turn_from w n i zero p = p
turn_from w n i (suc k) p =
    if w.stopped p.hart then p else turned n i (serial_next w n i p).answer p (serial_next w n i p) (turn_from w n i k)

-- the turn of hart i, of budget instructions if it waits and of none else
abbrev pub turn_of : {H C : Type 0} → Words H C → ℕ → State H C → ℕ → HartRound H → Turn H C
turn_of w budget s i r =
    turn_from w s.rounds i (if r.waits then budget else 0) (record { hart = r.last.hart; bytes = s.bytes; console = s.console; trace = s.trace })

-- the same as a sequence of states, each from the one before by one instruction

-- the state after an instruction that is done: memory has its stores, and the trace the access that it left
abbrev pub turn_went : {H C : Type 0} → ℕ → ℕ → Turn H C → SerialOutcome H C → Option Access → Turn H C
turn_went n i p o a = record { hart = o.hart; bytes = after p.bytes o.stores; console = o.console; trace = p.trace ++ events_of n i Serial (option_to_list a) }

-- the state after one that waits or stops its hart: the hart is as the instruction leaves it, and all else is as it was
abbrev pub turn_halted : {H C : Type 0} → Turn H C → SerialOutcome H C → Turn H C
turn_halted p o = record p { hart = o.hart }

-- a further instruction of hart i's turn in round n: the hart isn't stopped, and its next instruction is done
abbrev pub TurnGoes : {H C : Type 0} → Words H C → ℕ → ℕ → Turn H C → Turn H C → Type 0
TurnGoes w n i p q = (w.stopped p.hart ≡ false) × ((a : Option Access) × ((serial_next w n i p).answer ≡ Done a) × (q ≡ turn_went n i p (serial_next w n i p) a))

-- a sequence of instructions that begins at p and leads to t: the states after each of them, in order
abbrev pub TurnReaches : {H C : Type 0} → Words H C → ℕ → ℕ → Turn H C → List (Turn H C) → Turn H C → Type 0
TurnReaches w n i p [] t = t ≡ p
TurnReaches w n i p (q ∷ qs) t = TurnGoes w n i p q × TurnReaches w n i q qs t

-- the sequence may end only here, with j instructions of the budget left: none are left, the hart is or gets stopped, or its next one waits
abbrev pub TurnEnds : {H C : Type 0} → Words H C → ℕ → ℕ → ℕ → Turn H C → Turn H C → Type 0
TurnEnds w n i j t r =
    ((j ≡ 0) × (r ≡ t))
    ⊎ (((w.stopped t.hart ≡ true) × (r ≡ t))
    ⊎ (((0 < j) × (w.stopped t.hart ≡ false) × ((serial_next w n i t).answer ≡ Waits) × (r ≡ turn_halted t (serial_next w n i t)))
    ⊎ ((code : ℕ) × (0 < j) × (w.stopped t.hart ≡ false) × ((serial_next w n i t).answer ≡ Stopped code) × (r ≡ turn_halted t (serial_next w n i t)))))

-- a hart's serial turn is a sequence of at most k instructions up to where it may end, and r is how it ends
abbrev pub IsSerialTurn : {H C : Type 0} → Words H C → ℕ → ℕ → ℕ → Turn H C → List (Turn H C) → Turn H C → Type 0
IsSerialTurn {H} {C} w n i k p qs r = (j : ℕ) × (t : Turn H C) × (length qs + j ≡ k) × TurnReaches w n i p qs t × TurnEnds w n i j t r

-- exactly one sequence is a turn, it ends as `turn_from` says, and each sequence of at most k instructions is a beginning of it
pub record HasOneTurn {H C : Type 0} (w : Words H C) (n i k : ℕ) (p : Turn H C) : Type 0 where
  pub states : List (Turn H C)
  pub turn : IsSerialTurn w n i k p states (turn_from w n i k p)
  pub only : (qs : List (Turn H C)) (r : Turn H C) → IsSerialTurn w n i k p qs r → (qs ≡ states) × (r ≡ turn_from w n i k p)
  pub longest : (qs : List (Turn H C)) (t : Turn H C) → length qs ≤ k → TurnReaches w n i p qs t → (rest : List (Turn H C)) × (qs ++ rest ≡ states)

-- so it is from each state, within each budget
abbrev pub SerialTurnIsLongest : (H C : Type 0) → Type 0
SerialTurnIsLongest H C = (w : Words H C) (n i k : ℕ) (p : Turn H C) → HasOneTurn w n i k p

abbrev pub joined : {H C : Type 0} → State H C → Turn H C → State H C
joined s p = record { harts = s.harts ++ p.hart ∷ []; bytes = p.bytes; console = p.console; trace = p.trace; rounds = s.rounds }

-- the serial phase: the turns hart by hart, from hart i on
abbrev pub serial_from : {H C : Type 0} → Words H C → ℕ → ℕ → List (HartRound H) → State H C → State H C
serial_from w budget i [] s = s
serial_from w budget i (r ∷ rs) s = serial_from w budget (suc i) rs (joined s (turn_of w budget s i r))

-- ---- a round and a run

abbrev pub finished : {H C : Type 0} → Words H C → ℕ → State H C → List (HartRound H) → State H C
finished w budget s rs = serial_from w budget 0 rs (committed s rs)

-- one round: the parallel phase, the commit, the serial phase; `quotas` gives the quotas of the next round by the number of rounds done
unfoldable pub round_of : {H C : Type 0} → Words H C → ℕ → (ℕ → List ℕ) → State H C → State H C
round_of w budget quotas s = finished w budget s (hart_rounds w s.bytes (quotas s.rounds) s.harts)

-- n rounds
unfoldable pub run_of : {H C : Type 0} → Words H C → ℕ → (ℕ → List ℕ) → ℕ → State H C → State H C
run_of w budget quotas zero s = s
run_of w budget quotas (suc n) s = run_of w budget quotas n (round_of w budget quotas s)

-- before the first round
abbrev pub opening_state : {H C : Type 0} → List H → List ℕ → C → State H C
opening_state hs bs c = record { harts = hs; bytes = bs; console = c; trace = []; rounds = 0 }

-- the commit is the last covering store in hart order, else the byte of the round's start
abbrev pub CommitIsLastStore : (H C : Type 0) → Type 0
CommitIsLastStore H C =
    (s : State H C) (rs : List (HartRound H)) (x : ℕ) → x < length s.bytes →
    slice_index (committed s rs).bytes x ≡ last_byte (slice_index s.bytes x) (all_stores rs) x
