-- What a move reads is what its hart sees, and what its hart sees after it is what it wrote, and else what it saw.
use Rattle.std.proofs.Common.{◌≡◌, ℕ, zero, suc, Bool, true, false, cond, List, [], ◌∷◌, slice_index, All, Option, Some, None, refl, ◌∙◌, ap}
use Rattle.std.proofs.lemmas.List.Elements.{All-append, All-cons, All-nil}
use Rattle.pages.specs.declared.access.Store.{Store}
use Rattle.pages.specs.Memory.{IsBytes, after}
use Rattle.pages.proofs.StoreLaws.{bytes_after, length-after, byte_after}
use Rattle.round_schedule.specs.declared.access.Access.{Access}
use Rattle.round_schedule.specs.declared.access.Stepped.{Stepped}
use Rattle.round_schedule.specs.declared.access.Stepped.TheVariants.{Done, Waits, Stopped}
use Rattle.round_schedule.specs.Schedule.{Words, HartRound, State, Turn, all_stores, committed, first_or_zero, hart_rounds, joined, rest_of, serial_next, turn_from, turn_of, turn_went}
use Rattle.round_schedule.specs.Held.{held}
use Rattle.round_schedule.specs.Sound.{Agrees, Sound}
use Rattle.moments.specs.Sights.{Sight, next_seen, seen_after, turn_start}
use Rattle.moments.specs.Moves.{Move, moves_of, moves_over, part_moves, parts_moves, turn_moves, turns_moves}
use Rattle.moments.specs.Laws.{MovesReadWhatIsSeen, Sees}

abbrev SeesMove : {H : Type 0} → Move H → Type 0
SeesMove m = Sees m.before.bytes m.after.bytes m.access

agrees_sees : (bs : List ℕ) (ss : List Store) (a : Option Access) → Agrees bs ss a → Sees bs (after bs ss) a
agrees_sees bs ss None e = ap (after bs) e
agrees_sees bs ss (Some a) m = record {
  size = length-after bs ss;
  within = m.read_within;
  read = m.read_bytes;
  written = λ x lt. byte_after bs x ss lt ∙ m.put_bytes x (slice_index bs x);
}

-- ---- one part

module _ {H C : Type 0} (w : Words H C) (sound : Sound w) (i : ℕ) where
  abbrev AllSeen : ℕ → Sight H → Type 0
  AllSeen k s = All SeesMove (part_moves w i k s)

  part_first : (k : ℕ) (s : Sight H) (stopped : Bool) (a : Stepped) → w.stopped s.hart ≡ stopped → (next_seen w s).answer ≡ a → IsBytes s.bytes → ((q : Sight H) → IsBytes q.bytes → AllSeen k q) → AllSeen (suc k) s
  unfolding part_moves
  part_first k s true a hs ha b ih = rw hs (All-nil SeesMove)
  part_first k s false Waits hs ha b ih = rw (hs, ha) (All-nil SeesMove)
  part_first k s false (Stopped code) hs ha b ih = rw (hs, ha) (All-cons SeesMove _ [] refl (All-nil SeesMove))
  part_first k s false (Done a) hs ha b ih =
      rw (hs, ha) (All-cons SeesMove _ _ (agrees_sees s.bytes (next_seen w s).stores a (sound.step_agrees s.hart s.bytes a b ha))
      (ih (seen_after s (next_seen w s)) (bytes_after s.bytes (next_seen w s).stores b)))

  pub part_sees : (k : ℕ) (s : Sight H) → IsBytes s.bytes → AllSeen k s
  unfolding part_moves
  part_sees zero s b = All-nil SeesMove
  part_sees (suc k) s b = part_first k s (w.stopped s.hart) (next_seen w s).answer refl refl b (λ q c. part_sees k q c)

parts_see : {H C : Type 0} (w : Words H C) (sound : Sound w) (bs : List ℕ) (is_bytes : IsBytes bs) (qs : List ℕ) (i : ℕ) (hs : List H) → All SeesMove (parts_moves w bs qs i hs)
parts_see w sound bs is_bytes qs i [] = All-nil SeesMove
parts_see w sound bs is_bytes qs i (h ∷ hs) = All-append SeesMove _ _ (part_sees w sound i (first_or_zero qs) _ is_bytes) (parts_see w sound bs is_bytes (rest_of qs) (suc i) hs)

-- ---- one turn

module _ {H C : Type 0} (w : Words H C) (sound : Sound w) (n i : ℕ) where
  -- its moves are seen, and it leaves bytes
  pub record TurnSees (k : ℕ) (p : Turn H C) : Type 0 where
    pub moves : All SeesMove (turn_moves w n i k p)
    pub bytes : IsBytes (turn_from w n i k p).bytes

  turn_first : (k : ℕ) (p : Turn H C) (stopped : Bool) (a : Stepped) → w.stopped p.hart ≡ stopped → (serial_next w n i p).answer ≡ a → IsBytes p.bytes → ((q : Turn H C) → IsBytes q.bytes → TurnSees k q) → TurnSees (suc k) p
  unfolding turn_moves turn_from
  turn_first k p true a hs ha b ih = record { moves = rw hs (All-nil SeesMove); bytes = rw hs b }
  turn_first k p false Waits hs ha b ih = record { moves = rw (hs, ha) (All-nil SeesMove); bytes = rw (hs, ha) b }
  turn_first k p false (Stopped code) hs ha b ih = record { moves = rw (hs, ha) (All-cons SeesMove _ [] refl (All-nil SeesMove)); bytes = rw (hs, ha) b }
  turn_first k p false (Done a) hs ha b ih =
      let o = serial_next w n i p in
      let rest = ih (turn_went n i p o a) (bytes_after p.bytes o.stores b) in
      record {
        moves = rw (hs, ha) (All-cons SeesMove _ _ (agrees_sees p.bytes o.stores a (sound.serial_agrees n p.hart p.bytes p.console (held i p.trace) a b ha)) rest.moves);
        bytes = rw (hs, ha) rest.bytes;
      }

  pub turn_sees : (k : ℕ) (p : Turn H C) → IsBytes p.bytes → TurnSees k p
  unfolding turn_moves turn_from
  turn_sees zero p b = record { moves = All-nil SeesMove; bytes = b }
  turn_sees (suc k) p b = turn_first k p (w.stopped p.hart) (serial_next w n i p).answer refl refl b (λ q c. turn_sees k q c)

turns_see : {H C : Type 0} (w : Words H C) (sound : Sound w) (budget i : ℕ) (rs : List (HartRound H)) (s : State H C) → IsBytes s.bytes → All SeesMove (turns_moves w budget i rs s)
turns_see w sound budget i [] s b = All-nil SeesMove
turns_see w sound budget i (r ∷ rs) s b =
    let t = turn_sees w sound s.rounds i (cond r.waits budget 0) (turn_start s r) b in
    All-append SeesMove _ _ t.moves (turns_see w sound budget (suc i) rs (joined s (turn_of w budget s i r)) t.bytes)

-- ---- a round

over : {H C : Type 0} (w : Words H C) (sound : Sound w) (budget : ℕ) (qs : List ℕ) (s : State H C) → IsBytes s.bytes → All SeesMove (moves_over w budget qs s (hart_rounds w s.bytes qs s.harts))
over {H} {C} w sound budget qs s b =
    let rs : List (HartRound H) = hart_rounds w s.bytes qs s.harts in
    All-append SeesMove _ _ (parts_see w sound s.bytes b qs 0 s.harts) (turns_see w sound budget 0 rs (committed s rs) (bytes_after s.bytes (all_stores rs) b))

pub moves_read : (H C : Type 0) → MovesReadWhatIsSeen H C
unfolding moves_of
moves_read H C = λ w sound budget quotas s b. over w sound budget (quotas s.rounds) s b
