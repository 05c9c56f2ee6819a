-- A hart that is stopped does nothing more: of what it is along a round, only the last can be stopped.
use Rattle.std.proofs.Common.{◌≡◌, ℕ, zero, suc, Bool, true, false, cond, List, [], ◌∷◌, ◌++◌, slice_get, slice_index, Option, Some, None, refl, sym, ◌∙◌, ap, subst}
use Rattle.round_schedule.specs.declared.access.Stepped.{Stepped}
use Rattle.round_schedule.specs.declared.access.Stepped.TheVariants.{Done, Waits, Stopped}
use Rattle.round_schedule.specs.Past.{before_turn, goes_on_with, gone, last_of, parts_from, past_of, turns_from}
use Rattle.round_schedule.specs.Schedule.{HartRound, Progress, State, Turn, Words, began, ended, hart_round_of, hart_rounds, next_of, round_from, round_of, run_of, serial_next, turn_from, went}
use Rattle.round_schedule.proofs.PastEnds.{last_of_turn, no_past, past_ends, past_is}
use Rattle.moments.proofs.Past.{part_ends}

last_behind : {H : Type 0} (xs : List H) (x : H) → last_of (xs ++ x ∷ []) ≡ Some x
last_behind [] x = refl
last_behind (y ∷ []) x = refl
last_behind (y ∷ z ∷ xs) x = last_behind (z ∷ xs) x

module _ {H C : Type 0} (w : Words H C) where
  -- all but the last of these run
  abbrev pub GoOn : List H → Type 0
  GoOn [] = Unit {0}
  GoOn (h ∷ []) = Unit {0}
  GoOn (h ∷ g ∷ hs) = (w.stopped h ≡ false) × GoOn (g ∷ hs)

  go_more : (h : H) (hs : List H) → w.stopped h ≡ false → GoOn hs → GoOn (h ∷ hs)
  go_more h [] e go = tt
  go_more h (g ∷ hs) e go = (e, go)

  go_behind : (xs ys : List H) → GoOn xs → GoOn ys → GoOn (goes_on_with xs ys)
  go_behind [] ys gx gy = gy
  go_behind (x ∷ []) ys gx gy = gy
  go_behind (x ∷ y ∷ xs) ys gx gy = go_more x (goes_on_with (y ∷ xs) ys) gx.0 (go_behind (y ∷ xs) ys gx.1 gy)

  -- ---- a part

  part_first : (bs : List ℕ) (k : ℕ) (p : Progress H) (stopped : Bool) (a : Stepped) → w.stopped p.hart ≡ stopped → (next_of w bs p).answer ≡ a → ((q : Progress H) → GoOn (parts_from w bs k q)) → GoOn (parts_from w bs (suc k) p)
  unfolding parts_from
  part_first bs k p true a hs ha ih = rw hs tt
  part_first bs k p false Waits hs ha ih = rw (hs, ha) tt
  part_first bs k p false (Stopped code) hs ha ih = rw (hs, ha) tt
  part_first bs k p false (Done a) hs ha ih =
      let q : Progress H = went p (next_of w bs p) a in
      rw (hs, ha) (go_more p.hart (parts_from w bs k q) hs (ih q))

  pub part_goes : (bs : List ℕ) (k : ℕ) (p : Progress H) → GoOn (parts_from w bs k p)
  unfolding parts_from
  part_goes bs zero p = tt
  part_goes bs (suc k) p = part_first bs k p (w.stopped p.hart) (next_of w bs p).answer refl refl (λ q. part_goes bs k q)

  -- ---- a turn

  turn_first : (n i k : ℕ) (p : Turn H C) (stopped : Bool) (a : Stepped) → w.stopped p.hart ≡ stopped → (serial_next w n i p).answer ≡ a → ((q : Turn H C) → GoOn (turns_from w n i k q)) → GoOn (turns_from w n i (suc k) p)
  unfolding turns_from
  turn_first n i k p true a hs ha ih = rw hs tt
  turn_first n i k p false Waits hs ha ih = rw (hs, ha) tt
  turn_first n i k p false (Stopped code) hs ha ih = rw (hs, ha) tt
  turn_first n i k p false (Done a) hs ha ih =
      let q : Turn H C = gone n i a p (serial_next w n i p) in
      rw (hs, ha) (go_more p.hart (turns_from w n i k q) hs (ih q))

  turn_goes : (n i k : ℕ) (p : Turn H C) → GoOn (turns_from w n i k p)
  unfolding turns_from
  turn_goes n i zero p = tt
  turn_goes n i (suc k) p = turn_first n i k p (w.stopped p.hart) (serial_next w n i p).answer refl refl (λ q. turn_goes n i k q)

  -- ---- a round

  pub past_goes : (budget : ℕ) (quotas : ℕ → List ℕ) (s : State H C) (i : ℕ) (h : H) → slice_get s.harts i ≡ Some h → GoOn (past_of w budget quotas s i)
  past_goes budget quotas s i h e =
      let rs = hart_rounds w s.bytes (quotas s.rounds) s.harts in
      let r = hart_round_of w s.bytes (slice_index (quotas s.rounds) i) h in
      let front = before_turn w budget s rs i in
      subst GoOn (sym (past_is w budget quotas s i h e))
      (go_behind _ _ (part_goes s.bytes (slice_index (quotas s.rounds) i) (began h))
      (turn_goes front.rounds i (cond r.waits budget 0) (record { hart = r.last.hart; bytes = front.bytes; console = front.console; trace = front.trace })))

  -- a stopped hart has no turn
  turn_rests : (n i k : ℕ) (p : Turn H C) → w.stopped p.hart ≡ true → turn_from w n i k p ≡ p
  unfolding turn_from
  turn_rests n i zero p e = refl
  turn_rests n i (suc k) p e = rw e refl

  part_rests : (bs : List ℕ) (k : ℕ) (h : H) → w.stopped h ≡ true → round_from w bs k (began h) ≡ ended (began h) false
  unfolding round_from
  part_rests bs zero h e = refl
  part_rests bs (suc k) h e = rw e refl

  -- one that stops in its part is left as it stopped
  pub part_is_left : (budget : ℕ) (quotas : ℕ → List ℕ) (s : State H C) (i : ℕ) (h : H) → slice_get s.harts i ≡ Some h →
      w.stopped (hart_round_of w s.bytes (slice_index (quotas s.rounds) i) h).last.hart ≡ true →
      slice_get (round_of w budget quotas s).harts i ≡ Some (hart_round_of w s.bytes (slice_index (quotas s.rounds) i) h).last.hart
  part_is_left budget quotas s i h e stops =
      let rs = hart_rounds w s.bytes (quotas s.rounds) s.harts in
      let quota = slice_index (quotas s.rounds) i in
      let r = hart_round_of w s.bytes quota h in
      let front = before_turn w budget s rs i in
      let p : Turn H C = record { hart = r.last.hart; bytes = front.bytes; console = front.console; trace = front.trace } in
      let there : H → Option H = λ x. Some x in
      sym (past_ends H C w budget quotas s i)
      ∙ ap last_of (past_is w budget quotas s i h e)
      ∙ last_of_turn w front.rounds i (cond r.waits budget 0) p (parts_from w s.bytes quota (began h))
      ∙ ap (λ (t : Turn H C). there t.hart) (turn_rests front.rounds i (cond r.waits budget 0) p stops)

  -- and so is one that was stopped before
  pub stays : (budget : ℕ) (quotas : ℕ → List ℕ) (s : State H C) (i : ℕ) (h : H) → slice_get s.harts i ≡ Some h → w.stopped h ≡ true → slice_get (round_of w budget quotas s).harts i ≡ Some h
  stays budget quotas s i h e stops =
      let quota = slice_index (quotas s.rounds) i in
      let there : H → Option H = λ x. Some x in
      let rests = part_rests s.bytes quota h stops in
      part_is_left budget quotas s i h e (ap (λ (r : HartRound H). w.stopped r.last.hart) rests ∙ stops)
      ∙ ap (λ (r : HartRound H). there r.last.hart) rests

  pub stays_long : (budget : ℕ) (quotas : ℕ → List ℕ) (k : ℕ) (s : State H C) (i : ℕ) (h : H) → slice_get s.harts i ≡ Some h → w.stopped h ≡ true → slice_get (run_of w budget quotas k s).harts i ≡ Some h
  unfolding run_of
  stays_long budget quotas zero s i h e stops = e
  stays_long budget quotas (suc k) s i h e stops = stays_long budget quotas k (round_of w budget quotas s) i h (stays budget quotas s i h e stops) stops

  -- no hart comes
  none_comes : (budget : ℕ) (quotas : ℕ → List ℕ) (s : State H C) (i : ℕ) → slice_get s.harts i ≡ None → slice_get (round_of w budget quotas s).harts i ≡ None
  none_comes budget quotas s i e = sym (past_ends H C w budget quotas s i) ∙ ap last_of (no_past w budget quotas s i e)

  pub none_comes_long : (budget : ℕ) (quotas : ℕ → List ℕ) (k : ℕ) (s : State H C) (i : ℕ) → slice_get s.harts i ≡ None → slice_get (run_of w budget quotas k s).harts i ≡ None
  unfolding run_of
  none_comes_long budget quotas zero s i e = e
  none_comes_long budget quotas (suc k) s i e = none_comes_long budget quotas k (round_of w budget quotas s) i (none_comes budget quotas s i e)

  -- the last of a part
  pub last_of_part : (bs : List ℕ) (k : ℕ) (p : Progress H) → last_of (parts_from w bs k p) ≡ Some (round_from w bs k p).last.hart
  last_of_part bs k p =
      let e = part_ends w bs k p in
      ap last_of e.is ∙ last_behind e.front (round_from w bs k p).last.hart
