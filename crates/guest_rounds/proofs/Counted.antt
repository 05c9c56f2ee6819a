-- How many events a round leaves.
use Rattle.std.proofs.Common.{◌≡◌, ℕ, suc, ◌+◌, ◌*◌, ◌≤◌, Bool, true, false, List, [], ◌∷◌, length, All, refl, ap, arith, length-append}
use Rattle.std.proofs.lemmas.List.{length-map}
use Rattle.pages.specs.Memory.{Memory}
use Rattle.round_schedule.specs.declared.access.Access.{Access}
use Rattle.round_schedule.specs.declared.event.Phase.TheVariants.{Parallel, Serial}
use Rattle.round_schedule.specs.ReservingTurn.{log_events}
use Rattle.round_schedule.specs.Events.{event_of, events_of}
use Rattle.round_schedule.specs.Schedule.{Words, HartRound, began, events_from, first_or_zero, hart_rounds, rest_of}
use Rattle.hart_step.specs.declared.hart.Hart.{Hart}
use Rattle.hart_step.specs.Console.{ConsoleState}
use Rattle.hart_rounds.proofs.FewAccesses.{few_of_round}
use Rattle.hart_rounds.specs.declared.hart_end.HartEnd.{HartEnd}
use Rattle.serial_phase.specs.Turns.{count_log}
use Rattle.guest_rounds.specs.HartEnds.{AreEndsOf, count_accesses, count_logged, events_of_rounds, turns_of}
use Rattle.guest_rounds.proofs.EndParts.{accesses_is, log_is}

-- ---- the parallel phase

low_first : (qs : List ℕ) → All (λ q. q ≤ 1000000) qs → first_or_zero qs ≤ 1000000
low_first [] low = omega arith
low_first (q ∷ qs) low = low 0 0 (omega arith)

low_rest : (qs : List ℕ) → All (λ q. q ≤ 1000000) qs → All (λ q. q ≤ 1000000) (rest_of qs)
low_rest [] low = low
low_rest (q ∷ qs) low = λ k d l. low (suc k) d (omega (arith, l))

-- the accesses of a round, where no quota is above a million
pub few_accesses : (logs : Bool) (m : Memory) (W : Words Hart ConsoleState) (bs qs : List ℕ) (hs : List Hart) (os : List HartEnd) → All (λ q. q ≤ 1000000) qs → AreEndsOf logs m (hart_rounds W bs qs hs) os →
    count_accesses os ≤ 1000000 * length os
few_accesses logs m W bs qs [] [] low a = omega arith
few_accesses logs m W bs qs [] (o ∷ os) low a = absurd a
few_accesses logs m W bs qs (h ∷ hs) [] low a = absurd a
few_accesses logs m W bs qs (h ∷ hs) (o ∷ os) low a =
    omega (arith, (accesses_is a.0), few_of_round W bs (first_or_zero qs) (began h), low_first qs low, few_accesses logs m W bs (rest_of qs) hs os (low_rest qs low) a.1)

-- ---- the serial turns

-- a thousand instructions a hart at most
pub few_turns : (budget : ℕ) (bs : List Bool) → budget ≤ 1000 → turns_of budget bs ≤ 1000 * length bs
few_turns budget [] low = omega arith
few_turns budget (true ∷ bs) low = omega (arith, few_turns budget bs low, low)
few_turns budget (false ∷ bs) low = omega (arith, few_turns budget bs low)

-- ---- the events

count_rounds : (logs : Bool) (m : Memory) (n i : ℕ) (rs : List (HartRound Hart)) (os : List HartEnd) → AreEndsOf logs m rs os → length (events_from n i rs) ≡ count_accesses os
count_rounds logs m n i [] [] a = refl
count_rounds logs m n i (r ∷ rs) [] a = absurd a
count_rounds logs m n i [] (o ∷ os) a = absurd a
count_rounds logs m n i (r ∷ rs) (o ∷ os) a =
    omega (arith, length-append (events_of n i Parallel r.last.accesses) (events_from n (suc i) rs), length-map r.last.accesses (event_of n i Parallel), (accesses_is a.0), count_rounds logs m n (suc i) rs os a.1)

-- where the accesses are kept, as many stand in the logs as there were
pub all_logged : (m : Memory) (rs : List (HartRound Hart)) (os : List HartEnd) → AreEndsOf true m rs os → count_accesses os ≡ count_logged os
all_logged m [] [] a = refl
all_logged m (r ∷ rs) [] a = absurd a
all_logged m [] (o ∷ os) a = absurd a
all_logged m (r ∷ rs) (o ∷ os) a = omega (arith, (accesses_is a.0), ap length (log_is a.0), all_logged m rs os a.1)

count_turns : (n i : ℕ) (ls : List (List Access)) → length (log_events n i ls) ≡ count_log ls
count_turns n i [] = refl
count_turns n i (l ∷ ls) = omega (arith, length-append (events_of n i Serial l) (log_events n (suc i) ls), length-map l (event_of n i Serial), count_turns n (suc i) ls)

-- a round's events are one an access
pub count_events : (logs : Bool) (m : Memory) (n : ℕ) (rs : List (HartRound Hart)) (os : List HartEnd) (closed : List (List Access)) → AreEndsOf logs m rs os →
    length (events_of_rounds n rs closed) ≡ count_accesses os + count_log closed
count_events logs m n rs os closed a = omega (arith, length-append (events_from n 0 rs) (log_events n 0 closed), count_rounds logs m n 0 rs os a, count_turns n 0 closed)
