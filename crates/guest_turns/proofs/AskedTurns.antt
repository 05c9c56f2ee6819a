-- The serial turns that are done to find a hart within its own.
use Rattle.std.proofs.Common.{◌<◌, ◌≤◌, length, drop, take, ◌-◌, get_or, arith, ◌≡◌, ℕ, zero, suc, ◌+◌, Bool, true, false, cond, nat_lt, nat_eq, List, [], ◌∷◌, Option, Some, None, refl, sym, ap, subst, ◌∙◌, inl, inr}
use Rattle.std.proofs.lemmas.Bool.Decides.{nat_tests}
use Rattle.pages.specs.Memory.{Memory, stored}
use Rattle.pages.specs.Paged.{Paged}
use Rattle.pages.specs.declared.access.Range.{Range}
use Rattle.round_schedule.specs.declared.span.Span.{Span}
use Rattle.round_schedule.specs.ReservingTurn.{ReservingPhase, ReservingTurn, reserving_phase_from, reserving_phase_joined, reserving_turn_from, reserving_turn_of}
use Rattle.round_schedule.specs.Schedule.{HartRound, all_stores}
use Rattle.commit_phase.specs.Commit.{Committed}
use Rattle.hart_step.specs.declared.hart.Hart.{Hart}
use Rattle.hart_step.specs.Console.{ConsoleState}
use Rattle.hart_step.specs.Numbers.{minus}
use Rattle.hart_step.specs.Words.{words_of}
use Rattle.moments.specs.Sights.{Sight}
use Rattle.serial_phase.specs.Phase.{HasBytes, TakesTurn, turn_done}
use Rattle.serial_phase.specs.Roomed.{HasRoom, Roomed}
use Rattle.serial_phase.specs.declared.shared.SharedState.{SharedState}
use Rattle.serial_phase.specs.declared.shared.Turn.{Turn}
use Rattle.guest_turns.specs.declared.asked_turn.TurnPlace.{TurnPlace}
use Rattle.hart_rounds.specs.declared.hart_end.HartEnd.{HartEnd}
use Rattle.guest_rounds.specs.Guests.{Shared}
use Rattle.guest_turns.specs.Asked.{HadTurns, LeftBy, reserving_turn_begun, found, found_at, found_in, ready_for_turns}
use Rattle.guest_rounds.specs.HartEnds.{AreEndsOf, KeepsPages}
use Rattle.guest_rounds.proofs.EndParts.{hart_is, waits_is}

-- ---- room

pub less_room : (m n : ℕ) (c : Roomed) → m ≤ n → HasRoom n c → HasRoom m c
less_room m n c le (inl h) = inl (omega arith)
less_room m n c le (inr h) = inr h

-- room may have been made: all else is as it was
pub record IsAsBefore (s t : SharedState) : Type 0 where
  pub keeps : KeepsPages s.pages t.pages
  pub reservations : t.reservations ≡ s.reservations
  pub console : t.console.console ≡ s.console.console

-- ---- the turns of the harts before

same_bytes : (p q r : Paged) (bs cs : List ℕ) → HasBytes p bs q → HasBytes q cs r → HasBytes p cs r
same_bytes p q r bs cs a b = record { bytes = b.bytes; code = b.code ∙ a.code; count = b.count ∙ a.count; stays = λ page h. b.stays page (a.stays page h) }

no_turns : (turn : Turn) (s : SharedState) → HadTurns turn [] s s
no_turns turn s logs m [] c a eb ec et = record { pages = record { bytes = sym eb; code = refl; count = refl; stays = λ page h. h }; reservations = sym et; console = sym ec }
no_turns turn s logs m (r ∷ rs) c a eb ec et = absurd a

-- the turn of a hart whose round left this, and the one of the next hart
abbrev pub turn_for : Turn → HartEnd → Turn
turn_for turn o = record turn { budget = cond o.waits turn.budget 0 }

abbrev pub next_turn : Turn → Turn
next_turn turn = record turn { hart = turn.hart + 1 }

turns_more : (turn : Turn) (o : HartEnd) (os : List HartEnd) (s s' u : SharedState) (h : Hart) →
    TakesTurn (turn_done (turn_for turn o) o.hart s) h s s' → HadTurns (next_turn turn) os s' u → HadTurns turn (o ∷ os) s u
turns_more turn o os s s' u h x y logs m [] c a eb ec et = absurd a
turns_more turn o os s s' u h x y logs m (r ∷ rs) c a eb ec et =
    let n = turn.round in
    let first = turn.hart in
    let budget = turn.budget in
    let W = words_of s.pages.memory.code in
    let reserving_turn : Bool → Hart → List ℕ → ConsoleState → List (Option Span) → ReservingTurn Hart ConsoleState = λ b g bs e reservations. reserving_turn_from W n first (cond b budget 0) (reserving_turn_begun g bs e reservations) in
    let D : ReservingTurn Hart ConsoleState = reserving_turn_of W budget n c first r.last.hart r.waits in
    let same : turn_done (turn_for turn o) o.hart s ≡ D =
    ap (λ (b : Bool). reserving_turn b o.hart s.pages.memory.bytes s.console.console s.reservations) (waits_is a.0)
    ∙ ap (λ (g : Hart). reserving_turn r.waits g s.pages.memory.bytes s.console.console s.reservations) (hart_is a.0)
    ∙ ap (λ (bs : List ℕ). reserving_turn r.waits r.last.hart bs s.console.console s.reservations) (sym eb)
    ∙ ap (λ (e : ConsoleState). reserving_turn r.waits r.last.hart c.bytes e s.reservations) (sym ec)
    ∙ ap (λ (reservations : List (Option Span)). reserving_turn r.waits r.last.hart c.bytes c.console reservations) (sym et) in
    let x' = subst (λ (z : ReservingTurn Hart ConsoleState). TakesTurn z h s s') same x in
    let z = y logs m rs (reserving_phase_joined c D) a.1 (sym x'.pages.bytes) (sym x'.console) (sym x'.reservations) in
    let next : first + 1 ≡ suc first = omega arith in
    let w = subst (λ (j : ℕ). LeftBy (reserving_phase_from W budget n j rs (reserving_phase_joined c D)) s' u) next
    (subst (λ (code : List Range). LeftBy (reserving_phase_from (words_of code) budget n (first + 1) rs (reserving_phase_joined c D)) s' u) x'.pages.code z) in
    record { pages = same_bytes s.pages s'.pages u.pages _ _ x'.pages w.pages; reservations = w.reservations; console = w.console }

-- by the first of a list

abbrev pub rest : List HartEnd → List HartEnd
rest os = take (length os - 1) (drop 1 os)

all_taken : (os : List HartEnd) → take (length os) os ≡ os
all_taken [] = refl
all_taken (o ∷ os) = ap (λ (x : List HartEnd). o ∷ x) (all_taken os)

rest_is : (o : HartEnd) (os : List HartEnd) → rest (o ∷ os) ≡ os
rest_is o os = let e : length (o ∷ os) - 1 ≡ length os = omega arith in ap (λ (n : ℕ). take n os) e ∙ all_taken os

pub none_there : (turn : Turn) (os : List HartEnd) (s : SharedState) → length os < 1 → HadTurns turn os s s
none_there turn [] s lt = no_turns turn s
none_there turn (o ∷ os) s lt = absurd (omega (arith, lt))

had_first : (turn : Turn) (os : List HartEnd) (s t u : SharedState) → IsAsBefore s t → HadTurns turn os t u → HadTurns turn os s u
had_first turn os s t u same had logs m rs c a eb ec et =
    let memory = same.keeps.memory in
    let left = had logs m rs c a (eb ∙ sym (ap (λ (x : Memory). x.bytes) memory)) (ec ∙ sym same.console) (et ∙ sym same.reservations) in
    let w = subst (λ (code : List Range). LeftBy (reserving_phase_from (words_of code) turn.budget turn.round turn.hart rs c) t u) (ap (λ (x : Memory). x.code) memory) left in
    record {
      pages = record { bytes = w.pages.bytes; code = w.pages.code ∙ ap (λ (x : Memory). x.code) memory; count = w.pages.count ∙ same.keeps.count; stays = λ page h. w.pages.stays page (same.keeps.stays page h) };
      reservations = w.reservations;
      console = w.console;
    }

pub had_then : (turn : Turn) (os : List HartEnd) (s t u : SharedState) → HadTurns turn os s t → IsAsBefore t u → HadTurns turn os s u
had_then turn os s t u had same logs m rs c a eb ec et =
    let memory = same.keeps.memory in
    let w = had logs m rs c a eb ec et in
    record {
      pages = record { bytes = ap (λ (x : Memory). x.bytes) memory ∙ w.pages.bytes; code = ap (λ (x : Memory). x.code) memory ∙ w.pages.code; count = same.keeps.count ∙ w.pages.count; stays = λ page h. same.keeps.stays page (w.pages.stays page h) };
      reservations = same.reservations ∙ w.reservations;
      console = same.console ∙ w.console;
    }

pub turns_up : (turn of_first : Turn) (o : HartEnd) (os : List HartEnd) (s t s' u : SharedState) (h : Hart) → 1 ≤ length os → o ≡ get_or os 0 o → of_first ≡ turn_for turn o →
    IsAsBefore s t → TakesTurn (turn_done of_first o.hart t) h t s' → HadTurns (next_turn turn) (rest os) s' u → HadTurns turn os s u
turns_up turn of_first o [] s t s' u h some is e same x y = absurd (omega (arith, some))
turns_up turn of_first o (v ∷ os) s t s' u h some is e same x y =
    let x1 = subst (λ (z : Turn). TakesTurn (turn_done z o.hart t) h t s') e x in
    let x2 : TakesTurn (turn_done (turn_for turn v) v.hart t) h t s' = subst (λ (z : HartEnd). TakesTurn (turn_done (turn_for turn z) z.hart t) h t s') is x1 in
    had_first turn (v ∷ os) s t u same (turns_more turn v os t s' u h x2 (subst (λ (r : List HartEnd). HadTurns (next_turn turn) r s' u) (rest_is v os) y))

-- ---- what the first harts left is of the first rounds

pub first_ends : (logs : Bool) (m : Memory) (i : ℕ) (rs : List (HartRound Hart)) (os : List HartEnd) → AreEndsOf logs m rs os → AreEndsOf logs m (take i rs) (take i os)
first_ends logs m zero rs os a = tt
first_ends logs m (suc i) [] [] a = tt
first_ends logs m (suc i) (r ∷ rs) [] a = absurd a
first_ends logs m (suc i) [] (o ∷ os) a = absurd a
first_ends logs m (suc i) (r ∷ rs) (o ∷ os) a = (a.0, first_ends logs m i rs os a.1)

-- ---- a hart in its own turn

pub found_none : (budget count : ℕ) (h e : Hart) (d : Sight Hart) → minus d.hart.done h.done < count → found budget count h d e ≡ None
found_none budget count h e d lt = let t : nat_lt (minus d.hart.done h.done) count ≡ true = grind (arith, nat_tests) in rw t refl

pub found_end : (budget count : ℕ) (h e : Hart) (d : Sight Hart) → count ≤ minus d.hart.done h.done → (count ≡ budget → ⊥) → e.done ≡ d.hart.done → found budget count h d e ≡ Some (record d { hart = e })
found_end budget count h e d le less same =
    let t : nat_lt (minus d.hart.done h.done) count ≡ false = grind (arith, nat_tests) in
    let u : nat_eq count budget ≡ false = grind (arith, nat_tests) in
    let v : nat_eq e.done d.hart.done ≡ true = grind (arith, nat_tests) in
    rw (t, u, v) refl

-- ---- after a commit and the turns before it

pub begun_there : (logs : Bool) (turn : Turn) (place : TurnPlace) (h : Hart) (old : Shared) (rs : List (HartRound Hart)) (os : List HartEnd) (ready : Paged) (start end : SharedState) →
    turn ≡ record { hart = 0; round = place.round; budget = place.budget } → AreEndsOf logs old.memory rs os → ready.memory ≡ old.memory → Committed rs ready start.pages old.reservations start.reservations →
    start.console.console ≡ old.console → HadTurns turn (take place.hart os) start end →
    found_at end.pages.memory.code place (reserving_turn_begun h end.pages.memory.bytes end.console.console end.reservations) ≡ found_in old place h rs
begun_there logs turn place h old rs os ready start end first a same committed console had =
    let m = old.memory in
    let i = place.hart in
    let memory : start.pages.memory ≡ stored m (all_stores rs) = committed.memory ∙ ap (λ (x : Memory). stored x (all_stores rs)) same in
    let c : ReservingPhase Hart ConsoleState = ready_for_turns old rs in
    let had' = subst (λ (t : Turn). HadTurns t (take i os) start end) first had in
    let left = had' logs m (take i rs) c (first_ends logs m i rs os a) (sym (ap (λ (x : Memory). x.bytes) memory)) (sym console) (sym committed.reservations) in
    let code : start.pages.memory.code ≡ m.code = ap (λ (x : Memory). x.code) memory in
    let there = subst (λ (z : List Range). LeftBy (reserving_phase_from (words_of z) place.budget place.round 0 (take i rs) c) start end) code left in
    let s : ReservingPhase Hart ConsoleState = reserving_phase_from (words_of m.code) place.budget place.round 0 (take i rs) c in
    ap (λ (z : List Range). found_at z place (reserving_turn_begun h end.pages.memory.bytes end.console.console end.reservations)) (there.pages.code ∙ code)
    ∙ ap (λ (bs : List ℕ). found_at m.code place (reserving_turn_begun h bs end.console.console end.reservations)) there.pages.bytes
    ∙ ap (λ (z : ConsoleState). found_at m.code place (reserving_turn_begun h s.bytes z end.reservations)) there.console
    ∙ ap (λ (z : List (Option Span)). found_at m.code place (reserving_turn_begun h s.bytes s.console z)) there.reservations
