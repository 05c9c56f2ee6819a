-- A test that every instruction preserves is preserved by a round.
use Rattle.std.proofs.Common.{◌≡◌, ℕ, zero, suc, Bool, true, false, if◌then◌else◌, List, [], ◌∷◌, All, arith}
use Rattle.std.proofs.lemmas.List.Elements.{All-cons, All-head, All-push}
use Rattle.pages.specs.Memory.{after}
use Rattle.round_schedule.specs.declared.access.Stepped.{Stepped}
use Rattle.round_schedule.specs.declared.access.Stepped.TheVariants.{Done, Waits, Stopped}
use Rattle.round_schedule.specs.Held.{held}
use Rattle.round_schedule.specs.Preserved.{Preserves, RoundsPreserve}
use Rattle.round_schedule.specs.Schedule.{HartRound, Progress, State, Turn, Words, began, by_answer, committed, ended, first_or_zero, hart_round_of, hart_rounds, joined, next_of, rest_of, round_from, round_of, serial_from, serial_next, turn_from, turn_of, turned, went}

module _ {H C : Type 0} (w : Words H C) (test : H → Bool) (keeps : Preserves w test) where
  Passes : H → Type 0
  Passes h = test h ≡ true

  abbrev Ended : HartRound H → Type 0
  Ended r = test r.last.hart ≡ true

  round_answered : (bs : List ℕ) (p : Progress H) (f : Progress H → HartRound H) (y : Stepped) →
      ((q : Progress H) → test q.hart ≡ true → Ended (f q)) → test p.hart ≡ true → Ended (by_answer y p (next_of w bs p) f)
  round_answered bs p f (Done a) rest h = rest (went p (next_of w bs p) a) (keeps.steps p.hart (after bs p.stores) h)
  round_answered bs p f Waits rest h = keeps.steps p.hart (after bs p.stores) h
  round_answered bs p f (Stopped code) rest h = keeps.steps p.hart (after bs p.stores) h

  round_stopped : (p : Progress H) (q : HartRound H) (s : Bool) → test p.hart ≡ true → Ended q → Ended (if s then ended p false else q)
  round_stopped p q true a b = a
  round_stopped p q false a b = b

  round_passes : (bs : List ℕ) (k : ℕ) (p : Progress H) → test p.hart ≡ true → Ended (round_from w bs k p)
  unfolding round_from
  round_passes bs zero p h = h
  round_passes bs (suc k) p h =
      round_stopped p (by_answer (next_of w bs p).answer p (next_of w bs p) (round_from w bs k)) (w.stopped p.hart) h
      (round_answered bs p (round_from w bs k) (next_of w bs p).answer (round_passes bs k) h)

  rounds_pass : (bs : List ℕ) (qs : List ℕ) (hs : List H) → All (λ (h : H). test h ≡ true) hs → All Ended (hart_rounds w bs qs hs)
  rounds_pass bs qs [] all = λ k d l. absurd (omega (arith, l))
  rounds_pass bs qs (h ∷ hs) all =
      All-cons Ended (hart_round_of w bs (first_or_zero qs) h) (hart_rounds w bs (rest_of qs) hs)
      (round_passes bs (first_or_zero qs) (began h) (All-head (λ (g : H). test g ≡ true) h hs all))
      (rounds_pass bs (rest_of qs) hs (λ k d l. all (suc k) d (omega (arith, l))))

  turn_answered : (n i : ℕ) (p : Turn H C) (f : Turn H C → Turn H C) (y : Stepped) →
      ((q : Turn H C) → test q.hart ≡ true → test (f q).hart ≡ true) → test p.hart ≡ true → test (turned n i y p (serial_next w n i p) f).hart ≡ true
  turn_answered n i p f (Done a) rest h = rest _ (keeps.serial_steps n p.hart p.bytes p.console (held i p.trace) h)
  turn_answered n i p f Waits rest h = keeps.serial_steps n p.hart p.bytes p.console (held i p.trace) h
  turn_answered n i p f (Stopped code) rest h = keeps.serial_steps n p.hart p.bytes p.console (held i p.trace) h

  turn_stopped : (p q : Turn H C) (s : Bool) → test p.hart ≡ true → test q.hart ≡ true → test (if s then p else q).hart ≡ true
  turn_stopped p q true a b = a
  turn_stopped p q false a b = b

  turn_passes : (n i k : ℕ) (p : Turn H C) → test p.hart ≡ true → test (turn_from w n i k p).hart ≡ true
  unfolding turn_from
  turn_passes n i zero p h = h
  turn_passes n i (suc k) p h =
      turn_stopped p (turned n i (serial_next w n i p).answer p (serial_next w n i p) (turn_from w n i k)) (w.stopped p.hart) h
      (turn_answered n i p (turn_from w n i k) (serial_next w n i p).answer (turn_passes n i k) h)

  serial_passes : (budget i : ℕ) (rs : List (HartRound H)) (s : State H C) → All Ended rs → All (λ (h : H). test h ≡ true) s.harts →
      All (λ (h : H). test h ≡ true) (serial_from w budget i rs s).harts
  serial_passes budget i [] s each h = h
  serial_passes budget i (r ∷ rs) s each h =
      serial_passes budget (suc i) rs (joined s (turn_of w budget s i r)) (λ k d l. each (suc k) d (omega (arith, l)))
      (All-push (λ (g : H). test g ≡ true) s.harts (turn_of w budget s i r).hart h
      (turn_passes s.rounds i (if r.waits then budget else 0) (record { hart = r.last.hart; bytes = s.bytes; console = s.console; trace = s.trace })
      (All-head Ended r rs each)))

  one_round_passes : (budget : ℕ) (quotas : ℕ → List ℕ) (s : State H C) → All (λ (h : H). test h ≡ true) s.harts →
      All (λ (h : H). test h ≡ true) (round_of w budget quotas s).harts
  unfolding round_of
  one_round_passes budget quotas s h =
      let rs : List (HartRound H) = hart_rounds w s.bytes (quotas s.rounds) s.harts in
      serial_passes budget 0 rs (committed s rs) (rounds_pass s.bytes (quotas s.rounds) s.harts h) (λ k d l. absurd (omega (arith, l)))

pub rounds_preserve : (H C : Type 0) → RoundsPreserve H C
rounds_preserve H C = λ w test keeps budget quotas s h. one_round_passes w test keeps budget quotas s h
