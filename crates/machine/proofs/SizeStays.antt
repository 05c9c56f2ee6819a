-- A round leaves as many bytes as there were.
use Rattle.std.proofs.Common.{◌≡◌, ℕ, zero, suc, Bool, true, false, if◌then◌else◌, List, [], ◌∷◌, length, refl, ◌∙◌}
use Rattle.pages.proofs.StoreLaws.{length-after}
use Rattle.round_schedule.specs.declared.access.Stepped.{Stepped}
use Rattle.round_schedule.specs.declared.access.Stepped.TheVariants.{Done, Waits, Stopped}
use Rattle.round_schedule.specs.Schedule.{HartRound, State, Turn, Words, all_stores, committed, hart_rounds, joined, round_of, serial_from, serial_next, turn_from, turn_of, turned}

module _ {H C : Type 0} (w : Words H C) where
  turn_answered : (n i : ℕ) (p : Turn H C) (f : Turn H C → Turn H C) (y : Stepped) → ((q : Turn H C) → length (f q).bytes ≡ length q.bytes) →
      length (turned n i y p (serial_next w n i p) f).bytes ≡ length p.bytes
  turn_answered n i p f (Done a) rest = rest _ ∙ length-after p.bytes (serial_next w n i p).stores
  turn_answered n i p f Waits rest = refl
  turn_answered n i p f (Stopped code) rest = refl

  turn_stopped : (p q : Turn H C) (s : Bool) → length q.bytes ≡ length p.bytes → length (if s then p else q).bytes ≡ length p.bytes
  turn_stopped p q true h = refl
  turn_stopped p q false h = h

  turn_size : (n i k : ℕ) (p : Turn H C) → length (turn_from w n i k p).bytes ≡ length p.bytes
  unfolding turn_from
  turn_size n i zero p = refl
  turn_size n i (suc k) p =
      turn_stopped p (turned n i (serial_next w n i p).answer p (serial_next w n i p) (turn_from w n i k)) (w.stopped p.hart)
      (turn_answered n i p (turn_from w n i k) (serial_next w n i p).answer (turn_size n i k))

  serial_size : (budget i : ℕ) (rs : List (HartRound H)) (s : State H C) → length (serial_from w budget i rs s).bytes ≡ length s.bytes
  serial_size budget i [] s = refl
  serial_size budget i (r ∷ rs) s =
      serial_size budget (suc i) rs (joined s (turn_of w budget s i r))
      ∙ turn_size s.rounds i (if r.waits then budget else 0) (record { hart = r.last.hart; bytes = s.bytes; console = s.console; trace = s.trace })

pub size_stays : {H C : Type 0} (w : Words H C) (budget : ℕ) (quotas : ℕ → List ℕ) (s : State H C) → length (round_of w budget quotas s).bytes ≡ length s.bytes
unfolding round_of
size_stays w budget quotas s =
    serial_size w budget 0 (hart_rounds w s.bytes (quotas s.rounds) s.harts) (committed s (hart_rounds w s.bytes (quotas s.rounds) s.harts))
    ∙ length-after s.bytes (all_stores (hart_rounds w s.bytes (quotas s.rounds) s.harts))
